-- The shelf after the two loops.
use Rattle.std.proofs.Common.{◌≡◌, ℕ, false, List, map, ap, ◌∙◌}
use Rattle.utreexo.specs.Lists.{filter}
use Rattle.utreexo.specs.Claims.{Target}
use Rattle.utreexo.specs.Wallet.{Held}
use Rattle.shelf.specs.Held.{astray}
use Rattle.refresh.specs.Refreshed.{Lookup, refreshed_by}
use Rattle.refresh.specs.Spent.{stays, shelf_after}
use Rattle.refresh.proofs.Standing.{none_astray}

module _ (f : Lookup) (us ts : List Target) (hs ks rs : List Held) (kept : ks ≡ filter (stays us) hs) (same : us ≡ ts) (changed : rs ≡ map (refreshed_by f) ks) where
  pub shelf_is : rs ≡ shelf_after f ts hs
  shelf_is = changed ∙ ap (map (refreshed_by f)) (kept ∙ ap (λ vs. filter (stays vs) hs) same)

  pub shelf_straight : (count : ℕ) → astray count hs ≡ false → astray count rs ≡ false
  shelf_straight count e = ap (astray count) shelf_is ∙ none_astray count f (stays ts) hs e
