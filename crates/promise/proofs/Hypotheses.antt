-- Why the third part of the promise supposes that images fit and that blocks are bytes: without either it is false.
use Rattle.std.proofs.Common.{◌≡◌, ℕ, ◌+◌, ◌^◌, Bool, true, false, cond, not, eqb, ltb, List, [], ◌∷◌, ◌++◌, replicate, sym, refl, arith}
use Rattle.std.proofs.lemmas.Bool.{or_parts, ltb-true, not-false}
use Rattle.utreexo.specs.declared.types.Input.TheVariants.{Leaf, Pair}
use Rattle.utreexo.specs.declared.types.Value.{Value}
use Rattle.utreexo.specs.Bytes.{Bytes, Octets, coin_in}
use Rattle.utreexo.specs.Lists.{any}
use Rattle.utreexo.specs.Values.{Image, ValueFits, ImageFits}
use Rattle.utreexo.specs.Blocks.{composed}
use Rattle.utreexo.specs.Checks.{over}
use Rattle.utreexo.specs.Wallet.{Call, take_block}
use Rattle.utreexo.specs.Collection.{block_for}
use Rattle.utreexo.specs.Bridge.{BridgeCall, bridge_take, GivenOctets}
use Rattle.utreexo.specs.Promise.{bridge_run, ServedWhere}
use Rattle.promise.proofs.Outcomes.{granted_refused}

abbrev word : ℕ → Value
word n = record { w0 = n; w1 = 0; w2 = 0; w3 = 0 }

-- an image that does not fit: a hash is cut when it is written
abbrev wide : Image
wide (Leaf c) = word (2 ^ 64)
wide (Pair a b) = word (a.w0 + b.w0)

-- a block that adds two coins
abbrev two : Bytes
two = composed (record { targets = []; spent = []; hashes = []; coins = coin_in (replicate 32 1) ∷ coin_in (replicate 32 2) ∷ [] })

-- A wallet and a bridge that are given one block.
module _ (image : Image) (b : Bytes) where
  abbrev one_call : List Call
  one_call = take_block b ∷ []

  abbrev one_fed : List BridgeCall
  one_fed = bridge_take b ∷ []

  -- what the bridge writes then, to spend the coin at position 0
  abbrev made : Bytes
  made = composed (block_for image (bridge_run image 8 one_fed).state.slots (0 ∷ []) [])

  abbrev output_made : Bytes
  output_made = over made (replicate 200 0)

octets_of : (b : Bytes) → any (λ x. not (ltb x 256)) b ≡ false → Octets b
octets_of [] e = tt
octets_of (x ∷ b) e = let (p, q) = or_parts (not (ltb x 256)) (any (λ x. not (ltb x 256)) b) e in (ltb-true x 256 (not-false (ltb x 256) p), octets_of b q)

-- the wallet refuses the block that the bridge writes
pub images_must_fit : ((image : Image) (places : ℕ) → ServedWhere image places (Unit {0}) GivenOctets) → ⊥
images_must_fit s =
    let serves = s wide 4 tt (one_call wide two) refl 8 (one_fed wide two) (octets_of two refl, tt) refl in
    granted_refused [] 10 (sym (serves.1 (0 ∷ []) [] (replicate 200 0) (output_made wide two) refl).1)

-- an image that fits, and tells whether a coin's first word does; a coin that does not is cut when it is written
abbrev narrow : Image
narrow (Leaf c) = word (cond (ltb c.w0 (2 ^ 64)) 0 1)
narrow (Pair a b) = word (cond (eqb a.w0 0) 0 1)

bit_fits : (t : Bool) → ValueFits (word (cond t 0 1))
bit_fits true = (omega arith, omega arith, omega arith, omega arith)
bit_fits false = (omega arith, omega arith, omega arith, omega arith)

narrow_fits : ImageFits narrow
narrow_fits (Leaf c) f = bit_fits (ltb c.w0 (2 ^ 64))
narrow_fits (Pair a b) f = bit_fits (eqb a.w0 0)

-- a block that adds two coins, of which one has the number 256 for a byte
abbrev large : Bytes
large = 0 ∷ 0 ∷ 0 ∷ 0 ∷ 2 ∷ 0 ∷ (replicate 7 0 ++ (256 ∷ replicate 24 0)) ++ replicate 32 2

-- the wallet refuses the block that the bridge writes
pub blocks_must_be_bytes : ((image : Image) (places : ℕ) → ServedWhere image places (ImageFits image) (λ _. Unit {0})) → ⊥
blocks_must_be_bytes s =
    let serves = s narrow 4 narrow_fits (one_call narrow large) refl 8 (one_fed narrow large) (tt, tt) refl in
    granted_refused [] 10 (sym (serves.1 (0 ∷ []) [] (replicate 200 0) (output_made narrow large) refl).1)
