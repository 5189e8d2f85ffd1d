-- What an inline list holds.
use Rattle.std.specs.Prelude.{ℕ, List, take}
use Rattle.inline_list.specs.declared.InlineList.{InlineList}

-- the items, in order; what stands in the places not used does not count
abbrev pub listed : {T : Type 0} {N : ℕ} → InlineList T N → List T
listed l = take l.len l.places
