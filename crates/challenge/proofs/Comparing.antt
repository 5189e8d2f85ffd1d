-- The verdict at one place. Assumes nothing.
use Rattle.std.proofs.Common.{◌≡◌, ℕ, true, cond, Some, None, Option, refl, ap, ◌∙◌}
use Rattle.laws.proofs.Logic.{never, some_inj}
use Rattle.utreexo.specs.declared.types.Input.{Input}
use Rattle.utreexo.specs.Forest.{Node, position}
use Rattle.utreexo.specs.Collection.{compared, Verdict}
use Rattle.place.specs.Nodes.{inside, number_at, position_at}

-- with no own input the visit goes on
pub passed_by : (q : ℕ) (a b : Option Input) (on : Verdict) → None ≡ a → on ≡ compared q a b on
passed_by q None None on e = refl
passed_by q None (Some y) on e = refl
passed_by q (Some x) b on e = absurd (never x e)

-- the position of a place of the forest
pub number_is : (m n k : ℕ) (d : Node) (q : ℕ) → m ≡ n → n ≡ k → inside n d ≡ true → Some q ≡ position_at m d → q ≡ position k d.row d.place
number_is m n k d q e f i s = some_inj q (number_at n d) (s ∙ ap (λ x. position_at x d) e ∙ ap (λ b. cond b (Some (number_at n d)) None) i) ∙ ap (λ x. position x d.row d.place) f

pub compared_at : (q r : ℕ) (a b x y : Option Input) (on : Verdict) → q ≡ r → a ≡ x → b ≡ y → compared q a b on ≡ compared r x y on
compared_at q r a b x y on e f g = ap (λ z. compared z a b on) e ∙ ap (λ z. compared r z b on) f ∙ ap (λ z. compared r x z on) g
