-- One row's step up: what the code computes, on lists.
use Rattle.std.specs.Prelude.{ℕ, ◌+◌, ◌-◌, ◌*◌, ◌/◌, ◌%◌, Bool, true, false, cond, ◌&&◌, List, [], ◌∷◌, Some, None, Option, ◌==◌, nat_lt, slice_index_or}
use Rattle.utreexo.specs.declared.types.Value.{Value}
use Rattle.climb.specs.declared.item.Item.{Item}
use Rattle.utreexo.specs.declared.types.Input.TheVariants.{Leaf, Pair}
use Rattle.utreexo.specs.Values.{Image, join, same_value}
use Rattle.utreexo.specs.Claims.{Target, no_value}

-- place o is the root of its tree, in a row of w places
abbrev pub top : ℕ → ℕ → Bool
top w o = w % 2 == 1 && o + 1 == w

-- q is the right sibling of o
abbrev pub beside : ℕ → ℕ → Bool
beside o q = o % 2 == 0 && q == o + 1

-- the sibling as plain arithmetic, which proofs compute with: it is the Forest's (sibling_is in proofs/Wanted)
abbrev pub sib : ℕ → ℕ
sib o = 2 * (o / 2) + (1 - o % 2)

-- the siblings that are not there
abbrev pub lones : ℕ → List ℕ → List ℕ
lones w [] = []
lones w (x ∷ []) = cond (top w x) [] (sib x ∷ [])
lones w (x ∷ (y ∷ ys)) = cond (top w x) (lones w (y ∷ ys)) (cond (beside x y) (lones w ys) (sib x ∷ lones w (y ∷ ys)))

-- two ascending lists in one, by a test of which comes first
module _ {A : Type 0} (less : A → A → Bool) where
  abbrev pub weave : A → (List A → List A) → List A → List A
  weave x k [] = x ∷ k []
  weave x k (y ∷ ys) = cond (less x y) (x ∷ k (y ∷ ys)) (y ∷ weave x k ys)

  abbrev pub merge : List A → List A → List A
  merge [] ys = ys
  merge (x ∷ xs) ys = weave x (λ l. merge xs l) ys

-- the targets of row r, in front of those of higher rows; and the others
abbrev pub front : ℕ → List Target → List Target
front r [] = []
front r (t ∷ ts) = cond (t.node.row == r) (t ∷ front r ts) []

abbrev pub past : ℕ → List Target → List Target
past r [] = []
past r (t ∷ ts) = cond (t.node.row == r) (past r ts) (t ∷ ts)

-- items: places with what is claimed there, and what is left ----------------------

pub record Stepped : Type 0 where
  pub parents : List Item
  pub aside : Option Item
  pub next : ℕ

abbrev pub stepped : List Item → Option Item → ℕ → Stepped
stepped ps a n = record { parents = ps; aside = a; next = n }

abbrev pub before : Item → Stepped → Stepped
before p s = record { parents = p ∷ s.parents; aside = s.aside; next = s.next }

abbrev pub left_of : Item → Item → Bool
left_of x y = nat_lt x.place y.place

module _ (image : Image) where
  -- a target: its coin is claimed, and nothing is left
  abbrev pub spent_item : Target → Item
  spent_item t = record { place = t.node.place; claim = image (Leaf t.coin); left = None }

  -- the item above two siblings
  abbrev pub twin : Item → Item → Item
  twin x y = record { place = x.place / 2; claim = image (Pair x.claim y.claim); left = join image x.left y.left }

  -- what a hash claims, and leaves
  abbrev pub hashed : ℕ → Value → Item
  hashed o h = record { place = o; claim = h; left = Some h }

  -- the item above one with a hash at its side
  abbrev pub lone : Item → Value → Item
  lone x h = cond (x.place % 2 == 0) (twin x (hashed x.place h)) (twin (hashed x.place h) x)

  module _ (hs : List Value) (w : ℕ) where
    -- From the left, in a row of w places, with the hash of number k the next: the root is set aside, two siblings make the item above
    -- them, and any other makes it with the next hash.
    abbrev pub step : ℕ → Option Item → List Item → Stepped
    step k a [] = record { parents = []; aside = a; next = k }
    step k a (x ∷ []) = cond (top w x.place) (record { parents = []; aside = Some x; next = k }) (record { parents = lone x (slice_index_or hs k no_value) ∷ []; aside = a; next = k + 1 })
    step k a (x ∷ (y ∷ ys)) =
        cond (top w x.place) (step k (Some x) (y ∷ ys))
        (cond (beside x.place y.place) (before (twin x y) (step k a ys)) (before (lone x (slice_index_or hs k no_value)) (step (k + 1) a (y ∷ ys))))

-- the root of a row against the item that was set aside: does it fit, and what does it become
abbrev pub met : Option Item → Option Value → Bool
met None v = true
met (Some x) None = false
met (Some x) (Some v) = same_value v x.claim

abbrev pub renew : Option Item → Option Value → Option Value
renew None v = v
renew (Some x) v = x.left

-- the item at a place
abbrev pub lookup : List Item → ℕ → Option Item
lookup [] o = None
lookup (x ∷ xs) o = cond (x.place == o) (Some x) (lookup xs o)
