-- What a proof claims: covered and needed positions, claimed inputs, fitting, after-values.
use Rattle.std.specs.Prelude.{ℕ, zero, suc, ◌+◌, ◌-◌, ◌*◌, ◌/◌, ◌^◌, Bool, true, false, cond, not, ◌&&◌, List, [], ◌∷◌, is_some, Some, None, Option, ◌==◌, nat_le, slice_index_or}
use Rattle.utreexo.specs.declared.types.Coin.{Coin}
use Rattle.utreexo.specs.declared.types.Value.{Value}
use Rattle.utreexo.specs.declared.types.Input.{Input}
use Rattle.utreexo.specs.declared.types.Input.TheVariants.{Leaf, Pair}
use Rattle.utreexo.specs.Lists.{below, filter, any, first}
use Rattle.utreexo.specs.Values.{Image, join, same_value}
use Rattle.utreexo.specs.Forest.{Node, at_node, locate, tree_of, bit, tree_place, rows, position, sibling}

-- a position, named with a coin
pub record Target : Type 0 where
  pub node : Node
  pub coin : Coin

-- d lies at e or beneath it
abbrev pub beneath : Node → Node → Bool
beneath d e = nat_le d.row e.row && d.place / 2 ^ (e.row - d.row) == e.place

-- d is e
abbrev pub same_node : Node → Node → Bool
same_node d e = d.row == e.row && d.place == e.place

-- covered are the targets and all positions above them
abbrev pub covered : List Target → Node → Bool
covered ts e = any (λ t. beneath t.node e) ts

-- the target at e, if there is one
abbrev pub target_at : List Target → Node → Option Target
target_at ts e = first (λ t. same_node t.node e) ts

-- needed is a position below a root that is not covered and whose sibling is
abbrev pub is_needed : ℕ → List Target → Node → Bool
is_needed n ts e =
    is_some (tree_of n (at_node (e.row + 1) (e.place / 2)))
    && (not (covered ts e) && covered ts (at_node e.row (sibling e.place)))

-- the position p is needed, in a forest of n slots
abbrev pub needed_at : ℕ → List Target → ℕ → Bool
needed_at n ts p = elim (locate n p) [ None ↦ false | Some e ↦ is_needed n ts e ]

-- the needed positions, ascending
abbrev pub needed : ℕ → List Target → List ℕ
needed n ts = filter (needed_at n ts) (below (2 ^ (rows n + 1) - 1))

-- where no hash is given, the value is of no account
abbrev pub no_value : Value
no_value = record { w0 = 0; w1 = 0; w2 = 0; w3 = 0 }

-- the hash for position p, from the needed positions and their hashes
abbrev pub pick : List ℕ → List Value → ℕ → Value
pick [] hs p = no_value
pick (q ∷ qs) [] p = no_value
pick (q ∷ qs) (h ∷ hs) p = cond (p == q) h (pick qs hs p)

-- A proof: the count, the targets, and a hash by row and place. One hash is given for each needed position.
pub record Proof : Type 0 where
  pub count : ℕ
  pub targets : List Target
  pub hash : ℕ → ℕ → Value

-- the proof that these targets and hashes make, the hashes in the order of the needed positions
abbrev pub proof_of : ℕ → List Target → List Value → Proof
proof_of n ts hs = record { count = n; targets = ts; hash = λ r o. pick (needed n ts) hs (position n r o) }

-- What a proof claims at a position: that a coin is there, which is to be spent; that a value is there, given by a hash;
-- or what it claims at the two children.
pub data Claim : Type 0 where
  spent : Coin → Claim
  given : Value → Claim
  both : Claim → Claim → Claim

-- what is claimed at place o of row r
abbrev pub claim_at : Proof → ℕ → ℕ → Claim
claim_at p zero o = elim (target_at p.targets (at_node 0 o)) [ None ↦ given (p.hash 0 o) | Some t ↦ spent t.coin ]
claim_at p (suc r) o =
    let l = claim_at p r (2 * o) in
    let k = claim_at p r (2 * o + 1) in
    elim (target_at p.targets (at_node (suc r) o)) [
      | None ↦ (elim (covered p.targets (at_node (suc r) o)) [ false ↦ given (p.hash (suc r) o) | true ↦ both l k ])
      | Some t ↦ spent t.coin
    ]

module _ (image : Image) where
  -- the claimed value
  abbrev pub claimed : Claim → Value
  claimed (spent c) = image (Leaf c)
  claimed (given v) = v
  claimed (both l r) = image (Pair (claimed l) (claimed r))

  -- the claimed input, of which the value is the image; a hash claims none
  abbrev pub claimed_input : Claim → Option Input
  claimed_input (spent c) = Some (Leaf c)
  claimed_input (given v) = None
  claimed_input (both l r) = Some (Pair (claimed l) (claimed r))

  -- the after-value, once the targets are spent: a target's is absent, a hash stays, others join their children
  abbrev pub after : Claim → Option Value
  after (spent c) = None
  after (given v) = Some v
  after (both l r) = join image (after l) (after r)

module _ (image : Image) (p : Proof) where
  -- what is claimed at the root of the tree of row k
  abbrev pub root_claim : ℕ → Claim
  root_claim k = claim_at p k (tree_place p.count k)

  -- there is a tree of row k, and its root position is covered
  abbrev pub root_covered : ℕ → Bool
  root_covered k = bit p.count k && covered p.targets (at_node k (tree_place p.count k))

  -- where it is covered, the claimed value there is the stored root, which is not blank
  abbrev pub fits_root : List (Option Value) → ℕ → Bool
  fits_root roots k =
      elim (root_covered k) [
        | false ↦ true
        | true ↦ (elim (slice_index_or roots k None) [ None ↦ false | Some v ↦ same_value v (claimed image (root_claim k)) ])
      ]

  -- the proof fits when this is so of every tree
  abbrev pub fits : List (Option Value) → Bool
  fits roots = not (any (λ k. not (fits_root roots k)) (below 32))

  -- a root once the targets are spent: the after-value where covered
  abbrev pub root_after : List (Option Value) → ℕ → Option Value
  root_after roots k = cond (root_covered k) (after image (root_claim k)) (slice_index_or roots k None)
