-- What was printed, told in other words: the same text.
-- Assumes nothing.
use Rattle.std.proofs.Common.{ℕ, ◌≡◌, subst, List, Result, Ok, Err, OnOk}
use Rattle.std.specs.declared.option.Option.{Option}
use Rattle.std.specs.Io.KnownBytes.{Appends}

pub same_text : {T E : Type 0} (r : Result T E) (x y : Option (List ℕ)) (l m : List ℕ) → l ≡ m → OnOk r (Appends x y l) → OnOk r (Appends x y m)
same_text (Ok v) x y l m e h = subst (Appends x y) e h
same_text (Err v) x y l m e h = tt
