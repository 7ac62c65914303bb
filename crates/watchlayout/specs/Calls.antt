-- What the two calls of a listener answer and leave: a fresh one, and one that listens to samples. The refusals come in one order: 9 for a buffer of
-- another length, 16 for a field outside its range; of a fresh one 9, 3 for another kind of part or another word on the bus below, and #104's 11.
-- Assumes nothing.
use Rattle.std.specs.Prelude.{ℕ, Bool, ◌&&◌, List, [], ◌∷◌, ◌++◌, eqb, ltb, length, take, if◌then◌else◌}
use Rattle.arbiter.specs.Straps.{in_range}
use Rattle.arbiter.specs.Traces.{is_kind, kind_of}
use Rattle.watch.specs.declared.Settings.{Settings}
use Rattle.watch.specs.Stream.{beginning}
use Rattle.watch.specs.Told.{taken, listened}
use Rattle.watchlayout.specs.Refusals.{Heeded}
use Rattle.watchlayout.specs.Places.{watch_length, laid, watcher_in, watch_in_range}

abbrev pub is_long : List ℕ → Bool
is_long b = eqb (length b) watch_length

-- ---- a fresh listener: before its first sample, beside a device after power-up

abbrev pub settings_of : ℕ → ℕ → ℕ → Settings
settings_of address every below = record { address = address; every = every; below = eqb below 1 }

unfoldable pub fresh_number : ℕ → ℕ → ℕ → List ℕ → ℕ
fresh_number kind address below b =
    if is_long b then (if is_kind kind && ltb below 2 then (if in_range address then 0 else 11) else 3) else 9

unfoldable pub fresh_after : ℕ → ℕ → ℕ → ℕ → List ℕ → List ℕ
fresh_after kind address every below b =
    if eqb (fresh_number kind address below b) 0 then laid (beginning (kind_of kind) (settings_of address every below)) else b

-- ---- samples

unfoldable pub watch_number : List ℕ → ℕ
watch_number b = if is_long b then (if watch_in_range b then 0 else 16) else 9

-- it is a listener, all fields in range
abbrev pub is_watch : List ℕ → Bool
is_watch b = eqb (watch_number b) 0

-- how many were taken: those up to the first that has something to tell, or all; of a refused buffer none
unfoldable pub heeded : List ℕ → List ℕ → Heeded
heeded xs b = record { number = watch_number b; taken = if is_watch b then taken xs (watcher_in b) else 0 }

-- and the listener after them; a refused buffer is left as it was
unfoldable pub heeded_after : List ℕ → List ℕ → List ℕ
heeded_after xs b = if is_watch b then laid (listened xs (watcher_in b)) else b

-- one call after the other, each with a chunk of its own, and the samples that they took
unfoldable pub heeded_through : List (List ℕ) → List ℕ → List ℕ
heeded_through [] b = b
heeded_through (xs ∷ chunks) b = heeded_through chunks (heeded_after xs b)

unfoldable pub taken_through : List (List ℕ) → List ℕ → List ℕ
taken_through [] b = []
taken_through (xs ∷ chunks) b = take (heeded xs b).taken xs ++ taken_through chunks (heeded_after xs b)
