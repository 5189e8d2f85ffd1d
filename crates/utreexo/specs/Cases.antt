-- Worked cases: small forests under Tally, small enough to follow by hand. Coin k is 32 bytes of k, and so is value k. Each case is a
-- test that computes, and one check over their list shows that all of them hold.
use Rattle.std.specs.Prelude.{ℕ, Bool, true, false, ◌&&◌, List, [], ◌∷◌, ◌++◌, map, reverse, length, replicate, Some, None, Option, ◌==◌, nat_eq, slice_index_or}
use Rattle.utreexo.specs.declared.types.Coin.{Coin}
use Rattle.utreexo.specs.declared.types.Value.{Value}
use Rattle.utreexo.specs.declared.types.Input.TheVariants.{Leaf, Pair}
use Rattle.utreexo.specs.Bytes.{Bytes, coin_in, value_in}
use Rattle.utreexo.specs.Lists.{below, filter}
use Rattle.utreexo.specs.Values.{same_coin, same_value, same_input}
use Rattle.utreexo.specs.Tally.{tally}
use Rattle.utreexo.specs.Forest.{Slots, bit, roots_of}
use Rattle.utreexo.specs.Blocks.{composed}
use Rattle.utreexo.specs.Checks.{refusal, Answer, granted, refused, read_causes}
use Rattle.utreexo.specs.Wallet.{View, position_of, take_causes, view_after, empty_view, add_all, Call, take_block, check_block, watch, let_go, show, take_back, wallet_step}
use Rattle.utreexo.specs.Collection.{held_at, slots_after, challenge, Verdict, unjudged, stands, differs}
use Rattle.utreexo.specs.Register.{register_step}
use Rattle.utreexo.specs.Promise.{wallet_run, register_run}

-- Tests -------------------------------------------------------------------------------------

-- all tests pass
abbrev pub every : List Bool → Bool
every [] = true
every (b ∷ bs) = b && every bs

abbrev same_option : {A : Type 0} → (A → A → Bool) → Option A → Option A → Bool
same_option same None None = true
same_option same None (Some b) = false
same_option same (Some a) None = false
same_option same (Some a) (Some b) = same a b

abbrev same_list : {A : Type 0} → (A → A → Bool) → List A → List A → Bool
same_list same [] [] = true
same_list same [] (y ∷ ys) = false
same_list same (x ∷ xs) [] = false
same_list same (x ∷ xs) (y ∷ ys) = same x y && same_list same xs ys

abbrev same_answer : Answer → Answer → Bool
same_answer (granted a) (granted b) = same_list nat_eq a b
same_answer (granted a) (refused k) = false
same_answer (refused j) (granted b) = false
same_answer (refused j) (refused k) = j == k

abbrev same_verdict : Verdict → Verdict → Bool
same_verdict (unjudged j) (unjudged k) = j == k
same_verdict (unjudged j) stands = false
same_verdict (unjudged j) (differs q x y) = false
same_verdict stands (unjudged k) = false
same_verdict stands stands = true
same_verdict stands (differs q x y) = false
same_verdict (differs p x y) (unjudged k) = false
same_verdict (differs p x y) stands = false
same_verdict (differs p x y) (differs q v w) = p == q && (same_input x v && same_input y w)

-- Small forests ------------------------------------------------------------------------------

abbrev coin : ℕ → Coin
coin k = coin_in (replicate 32 k)

abbrev value : ℕ → Value
value k = value_in (replicate 32 k)

abbrev block : List ℕ → List ℕ → List ℕ → List ℕ → Bytes
block targets spent hashes coins = composed (record { targets = targets; spent = map coin spent; hashes = map value hashes; coins = map coin coins })

-- the slots with these coins, and a wallet that took them one by one
abbrev slots : List ℕ → Slots
slots ks = map (λ k. Some (coin k)) ks

abbrev wallet : List ℕ → View
wallet ks = add_all tally empty_view (map coin ks)

-- the roots of the trees, the largest first
abbrev tree_roots : ℕ → List (Option Value) → List (Option Value)
tree_roots n roots = map (λ k. slice_index_or roots k None) (reverse (filter (bit n) (below 32)))

abbrev same_roots : List (Option Value) → List (Option Value) → Bool
same_roots = same_list (same_option same_value)

-- the slots have these roots, and so has the wallet
abbrev roots_are : Slots → View → List (Option ℕ) → Bool
roots_are s v ks =
    let expected = map (λ o. elim o [ None ↦ None | Some k ↦ Some (value k) ]) ks in
    same_roots (tree_roots (length s) (roots_of tally s)) expected
    && (v.count == length s && same_roots (tree_roots v.count v.roots) expected)

-- the slot is live, with this coin, position and path
abbrev held_is : Slots → ℕ → ℕ → ℕ → List ℕ → Bool
held_is s slot k p path =
    elim (held_at tally s slot) [
      | [] ↦ false
      | h ∷ hs ↦ same_coin h.coin (coin k) && (position_of (length s) h == p && same_list same_value h.path (map value path))
    ]

-- the wallet's take answers so
abbrev take_is : View → Bytes → Option ℕ → Bool
take_is v b answer = same_option nat_eq (refusal (take_causes tally v b)) answer

abbrev challenge_is : Slots → Bytes → Verdict → Bool
challenge_is s b verdict = same_verdict (challenge tally s b) verdict

-- The cases -------------------------------------------------------------------------------------

abbrev four : Slots
four = slots (1 ∷ 2 ∷ 3 ∷ 4 ∷ [])

-- the sibling of a spent coin moves up
abbrev spend_one : Bytes
spend_one = block (1 ∷ []) (2 ∷ []) (2 ∷ 37 ∷ []) []

-- two siblings are spent: everything beside them moves up
abbrev spend_two : Bytes
spend_two = block (0 ∷ 1 ∷ []) (1 ∷ 2 ∷ []) (37 ∷ []) []

-- a lone coin spent, and a coin after it
abbrev lone : Bytes
lone = block (0 ∷ []) (1 ∷ []) [] []

abbrev fifth : Bytes
fifth = block [] [] [] (5 ∷ [])

-- forged: neither is the forest's own, and both fit
abbrev forged_leaf : Bytes
forged_leaf = block (0 ∷ []) (6 ∷ []) (0 ∷ []) []

abbrev forged_root : Bytes
forged_root = block (2 ∷ []) (20 ∷ []) [] []

-- a whole run: four coins, one watched, its sibling spent and the forest grown, shown, taken back, let go
abbrev calls : List Call
calls =
    take_block (block [] [] [] (1 ∷ 2 ∷ 3 ∷ 4 ∷ []))
    ∷ watch (block (1 ∷ []) (2 ∷ []) (2 ∷ 37 ∷ []) [])
    ∷ take_block (block (0 ∷ []) (1 ∷ []) (3 ∷ 37 ∷ []) (9 ∷ []))
    ∷ show 8 (replicate 120 7)
    ∷ show 8 []
    ∷ show 0 []
    ∷ take_back
    ∷ let_go 1
    ∷ take_back
    ∷ take_back
    ∷ []

abbrev run_answers : List Answer
run_answers =
    granted []
    ∷ granted []
    ∷ granted []
    ∷ granted ((1 ∷ 0 ∷ 1 ∷ 0 ∷ 0 ∷ 0 ∷ []) ++ ((8 ∷ replicate 7 0) ++ (replicate 32 2 ++ (replicate 32 37 ++ replicate 42 7))))
    ∷ refused 19
    ∷ refused 15
    ∷ granted []
    ∷ granted []
    ∷ granted []
    ∷ refused 14
    ∷ []

abbrev answers_are : List Call → List Answer → Bool
answers_are cs expected =
    same_list same_answer (wallet_run tally 4 cs).answers expected && same_list same_answer (register_run tally 4 cs).answers expected

-- the wallet's and the register's answer to a call, after some that took coins 1 and 2
abbrev parts : Call → Answer → Answer → Bool
parts c ours theirs =
    let before = take_block (block [] [] [] (1 ∷ 2 ∷ [])) ∷ [] in
    same_answer (wallet_step tally c (wallet_run tally 4 before).state).answer ours
    && same_answer (register_step tally c (register_run tally 4 before).state).answer theirs

abbrev pub worked_cases : List Bool
worked_cases =
    -- coins 1, 2 and 3 give the roots 21 and 4; with coin 4, one root 248
    roots_are (slots (1 ∷ 2 ∷ 3 ∷ [])) (wallet (1 ∷ 2 ∷ 3 ∷ [])) (Some 21 ∷ Some 4 ∷ [])
    ∷ roots_are four (wallet (1 ∷ 2 ∷ 3 ∷ 4 ∷ [])) (Some 248 ∷ [])
    -- there, spending position 1, coin 2, with the hashes 2 and 37 leaves the root 191; coin 1 has position 4 and path 37
    ∷ take_is (wallet (1 ∷ 2 ∷ 3 ∷ 4 ∷ [])) spend_one None
    ∷ roots_are (slots_after tally spend_one four) (view_after tally spend_one (wallet (1 ∷ 2 ∷ 3 ∷ 4 ∷ []))) (Some 191 ∷ [])
    ∷ held_is (slots_after tally spend_one four) 0 1 4 (37 ∷ [])
    -- spending positions 0 and 1 instead, with the hash 37, leaves the root 37; coins 3 and 4 have positions 4 and 5
    ∷ take_is (wallet (1 ∷ 2 ∷ 3 ∷ 4 ∷ [])) spend_two None
    ∷ roots_are (slots_after tally spend_two four) (view_after tally spend_two (wallet (1 ∷ 2 ∷ 3 ∷ 4 ∷ []))) (Some 37 ∷ [])
    ∷ held_is (slots_after tally spend_two four) 2 3 4 (5 ∷ [])
    ∷ held_is (slots_after tally spend_two four) 3 4 5 (4 ∷ [])
    -- a lone coin spent leaves count 1 and a blank root; coin 5 then gives count 2, root 6, position 2 and an empty path
    ∷ take_is (wallet (1 ∷ [])) lone None
    ∷ roots_are (slots_after tally lone (slots (1 ∷ []))) (view_after tally lone (wallet (1 ∷ []))) (None ∷ [])
    ∷ roots_are (slots_after tally fifth (slots_after tally lone (slots (1 ∷ [])))) (view_after tally fifth (view_after tally lone (wallet (1 ∷ [])))) (Some 6 ∷ [])
    ∷ held_is (slots_after tally fifth (slots_after tally lone (slots (1 ∷ [])))) 1 5 2 []
    -- target 0 in an empty forest, and 3 or 5 at three slots, are not in the forest
    ∷ take_is (wallet []) (block (0 ∷ []) (6 ∷ []) [] []) (Some 6)
    ∷ take_is (wallet (1 ∷ 2 ∷ 3 ∷ [])) (block (3 ∷ []) (6 ∷ []) [] []) (Some 6)
    ∷ take_is (wallet (1 ∷ 2 ∷ 3 ∷ [])) (block (5 ∷ []) (6 ∷ []) [] []) (Some 6)
    -- at four slots, target 4 lies above target 0; target 1 needs two hashes, not one or three
    ∷ take_is (wallet (1 ∷ 2 ∷ 3 ∷ 4 ∷ [])) (block (0 ∷ 4 ∷ []) (6 ∷ 6 ∷ []) [] []) (Some 7)
    ∷ take_is (wallet (1 ∷ 2 ∷ 3 ∷ 4 ∷ [])) (block (1 ∷ []) (6 ∷ []) (1 ∷ []) []) (Some 8)
    ∷ take_is (wallet (1 ∷ 2 ∷ 3 ∷ 4 ∷ [])) (block (1 ∷ []) (6 ∷ []) (1 ∷ 1 ∷ 1 ∷ []) []) (Some 8)
    -- coins 1 and 2: target 0 with coin 6 and the hash 0 fits; the challenge returns position 2, pair (2, 3) and pair (7, 0)
    ∷ take_is (wallet (1 ∷ 2 ∷ [])) forged_leaf None
    ∷ challenge_is (slots (1 ∷ 2 ∷ [])) forged_leaf (differs 2 (Pair (value 2) (value 3)) (Pair (value 7) (value 0)))
    -- target 2 with coin 20 fits too; the challenge returns position 2, pair (2, 3) and leaf 20
    ∷ take_is (wallet (1 ∷ 2 ∷ [])) forged_root None
    ∷ challenge_is (slots (1 ∷ 2 ∷ [])) forged_root (differs 2 (Pair (value 2) (value 3)) (Leaf (coin 20)))
    -- a genuine block stands; one that does not fit is refused before any visit
    ∷ challenge_is four spend_one stands
    ∷ challenge_is four (block (1 ∷ []) (2 ∷ []) (2 ∷ 38 ∷ []) []) (unjudged 10)
    -- forged blocks, to take, check and watch: the wallet grants them, the register refuses them
    ∷ parts (take_block forged_leaf) (granted []) (refused 10)
    ∷ parts (check_block forged_root) (granted []) (refused 10)
    ∷ parts (watch forged_leaf) (granted []) (refused 10)
    -- six zero bytes are a block that only adds a mark
    ∷ answers_are (take_block (replicate 6 0) ∷ take_back ∷ take_back ∷ []) (granted [] ∷ granted [] ∷ refused 14 ∷ [])
    -- 32 spent coins may be read, 33 may not
    ∷ same_option nat_eq (refusal (read_causes (block (below 32) (below 32) [] []))) None
    ∷ same_option nat_eq (refusal (read_causes (block (below 33) (below 33) [] []))) (Some 2)
    -- a whole run: the card that is shown is at position 8 of the grown forest, and the output keeps its tail
    ∷ answers_are calls run_answers
    ∷ []
