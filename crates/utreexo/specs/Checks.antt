-- Refusals, answers and steps. Every call looks for its refusals in ascending number, each over the whole block before the next:
-- its order of checks is a list of causes, and the first that holds is its answer.
use Rattle.std.specs.Prelude.{ℕ, ◌+◌, ◌*◌, Bool, true, false, not, ◌&&◌, ◌||◌, List, [], ◌∷◌, ◌++◌, length, take, drop, is_some, Some, None, Option, ◌==◌, nat_lt, slice_index_or}
use Rattle.utreexo.specs.declared.types.Coin.{Coin}
use Rattle.utreexo.specs.declared.types.Value.{Value}
use Rattle.utreexo.specs.Bytes.{Bytes}
use Rattle.utreexo.specs.Lists.{any}
use Rattle.utreexo.specs.Values.{Image}
use Rattle.utreexo.specs.Forest.{locate, tree_of}
use Rattle.utreexo.specs.Claims.{Target, Proof, proof_of, beneath, same_node, needed, fits}
use Rattle.utreexo.specs.Blocks.{Block, composed, spent_count, hash_count, coin_count}

-- a cause of refusal, with its number
pub record Cause : Type 0 where
  pub holds : Bool
  pub number : ℕ

-- the cause of number n holds if the test passes
abbrev pub cause : ℕ → Bool → Cause
cause n t = record { holds = t; number = n }

-- the number of the first cause that holds
abbrev pub refusal : List Cause → Option ℕ
refusal [] = None
refusal (c ∷ cs) = let r = refusal cs in elim c.holds [ true ↦ Some c.number | false ↦ r ]

-- what a call answers: the whole output after it, or the number of its refusal
pub data Answer : Type 0 where
  granted : Bytes → Answer
  refused : ℕ → Answer

-- an answer and the state after it
pub record Step (S : Type 0) : Type 0 where
  pub answer : Answer
  pub state : S

abbrev pub step : {S : Type 0} → Answer → S → Step S
step a s = record { answer = a; state = s }

-- the new state where nothing refuses it, else the old
abbrev pub when_granted : {S : Type 0} → Option ℕ → S → S → Step S
when_granted None new old = step (granted []) new
when_granted (Some k) new old = step (refused k) old

-- a mark pushed on a history, which has its newest mark first and keeps only as many as it has room for
abbrev pub push : {S : Type 0} → ℕ → S → List S → List S
push room mark marks = take room (mark ∷ marks)

-- the output with the result over its front; a longer one keeps its tail
abbrev pub over : Bytes → Bytes → Bytes
over result out = result ++ drop (length result) out

-- a result goes into the output unless a cause holds, or the output is shorter
abbrev pub output : List Cause → Bytes → Bytes → Answer
output cs result out =
    elim (refusal (cs ++ (cause 19 (nat_lt (length out) (length result)) ∷ []))) [ Some k ↦ refused k | None ↦ granted (over result out) ]

-- the most slots that a forest can have
abbrev pub most_slots : ℕ
most_slots = 4294967295

-- The causes that several calls have -------------------------------------------------

-- reading a block: its length and its counts
abbrev pub read_causes : Bytes → List Cause
read_causes b =
    cause 1 (nat_lt (length b) 6)
    ∷ cause 2 (nat_lt 32 (spent_count b) || (nat_lt 992 (hash_count b) || nat_lt 32 (coin_count b)))
    ∷ cause 3 (not (length b == 6 + 40 * spent_count b + 32 * hash_count b + 32 * coin_count b))
    ∷ []

-- positions named with coins, in a forest of n slots; one outside the forest is left out
abbrev pub named : ℕ → List ℕ → List Coin → List Target
named n [] cs = []
named n (p ∷ ps) [] = []
named n (p ∷ ps) (c ∷ cs) =
    let r = named n ps cs in
    elim (locate n p) [ None ↦ r | Some e ↦ record { node = e; coin = c } ∷ r ]

-- a block's targets, in a forest of n slots
abbrev pub targets_of : ℕ → Block → List Target
targets_of n b = named n b.targets b.spent

-- a block's proof, in a forest of n slots
abbrev pub block_proof : ℕ → Block → Proof
block_proof n b = proof_of n (targets_of n b) b.hashes

-- p is no position of the forest of n slots
abbrev pub outside : ℕ → ℕ → Bool
outside n p = not (is_some (locate n p))

-- t lies above u
abbrev pub strictly_above : Target → Target → Bool
strictly_above t u = beneath u.node t.node && not (same_node u.node t.node)

-- some target lies above another
abbrev pub above_another : List Target → Bool
above_another ts = any (λ t. any (strictly_above t) ts) ts

-- what the count alone tells of a block's targets and hashes
abbrev pub place_causes : ℕ → Block → List Cause
place_causes n b =
    cause 6 (any (outside n) b.targets)
    ∷ cause 7 (above_another (targets_of n b))
    ∷ cause 8 (not (length b.hashes == length (needed n (targets_of n b))))
    ∷ []

-- the root over a target is blank
abbrev pub blank_over : ℕ → List (Option Value) → Target → Bool
blank_over n roots t = elim (tree_of n t.node) [ None ↦ true | Some k ↦ not (is_some (slice_index_or roots k None)) ]

-- what the roots tell of a block's proof
abbrev pub proof_causes : Image → ℕ → List (Option Value) → Block → List Cause
proof_causes image n roots b =
    cause 9 (any (blank_over n roots) (targets_of n b))
    ∷ cause 10 (not (fits image (block_proof n b) roots))
    ∷ []

-- Compose --------------------------------------------------------------------------------

-- the counts of targets, spent coins, hashes and new coins
abbrev pub compose_causes : ℕ → ℕ → ℕ → ℕ → List Cause
compose_causes t d h a = cause 2 (nat_lt 32 t || (nat_lt 32 d || (nat_lt 992 h || nat_lt 32 a))) ∷ cause 3 (not (t == d)) ∷ []

-- compose writes a block from the four lists into an output
abbrev pub compose : List ℕ → List Coin → List Value → List Coin → Bytes → Answer
compose targets spent hashes coins out =
    output (compose_causes (length targets) (length spent) (length hashes) (length coins))
    (composed (record { targets = targets; spent = spent; hashes = hashes; coins = coins })) out
