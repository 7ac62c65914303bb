-- A buffer that listened is one that can listen, and in what chunks samples come plays no part.
-- Assumes nothing.
use Prim.Native.Nat.{ℕ}
use mathlib.Core.Path.{◌≡◌, refl, sym, ap, ap₂, subst, ◌∙◌}
use mathlib.Core.Bool.{true}
use mathlib.Core.List.{List, [], ◌∷◌, ◌++◌}
use lib.ListN.{take}
use Rattle.arbiter.proofs.Choice.{if_true}
use Rattle.watch.specs.declared.Watcher.{Watcher}
use Rattle.watch.specs.Stream.{watched}
use Rattle.watch.specs.Told.{taken, listened}
use Rattle.watch.proofs.Chunks.{chunks_alike}
use Rattle.watchlayout.specs.Places.{laid, watcher_in}
use Rattle.watchlayout.specs.Calls.{is_watch, heeded, heeded_after, heeded_through, taken_through}
use Rattle.watchlayout.specs.Laws.{Fit, StaysWatch, ManyCalls}
use Rattle.watchlayout.proofs.Fits.{buffer_fits, listener_fits}
use Rattle.watchlayout.proofs.Back.{read_back}
use Rattle.watchlayout.proofs.Stays.{stays_fit}

left : (xs b : List ℕ) → is_watch b ≡ true → heeded_after xs b ≡ laid (listened xs (watcher_in b))
unfolding heeded_after
left xs b h = if_true _ _ h

told : (xs b : List ℕ) → is_watch b ≡ true → (heeded xs b).taken ≡ taken xs (watcher_in b)
unfolding heeded
told xs b h = if_true _ _ h

listened_fits : (xs : List ℕ) (w : Watcher) → Fit w → Fit (listened xs w)
listened_fits xs w h = stays_fit (take (taken xs w) xs) w h

pub stays_watch : StaysWatch
stays_watch xs b h =
    subst (λ (l : List ℕ). is_watch l ≡ true) (sym (left xs b h))
    (listener_fits (listened xs (watcher_in b)) (listened_fits xs (watcher_in b) (buffer_fits b h)))

pub many_calls : ManyCalls
unfolding heeded_through taken_through watched
many_calls [] w h = refl
many_calls (xs ∷ chunks) w h =
    let good : is_watch (laid w) ≡ true = listener_fits w h in
    let back : watcher_in (laid w) ≡ w = read_back w h in
    let now : List ℕ = take (taken xs w) xs in
    let after : Watcher = listened xs w in
    let rest : List ℕ = taken_through chunks (laid after) in
    let here : heeded_after xs (laid w) ≡ laid after = left xs (laid w) good ∙ ap (λ (v : Watcher). laid (listened xs v)) back in
    let count : (heeded xs (laid w)).taken ≡ taken xs w = told xs (laid w) good ∙ ap (taken xs) back in
    let all : taken_through (xs ∷ chunks) (laid w) ≡ now ++ rest = ap₂ (λ (n : ℕ) (l : List ℕ). take n xs ++ taken_through chunks l) count here in
    ap (heeded_through chunks) here ∙ many_calls chunks after (listened_fits xs w h) ∙ ap laid (sym (chunks_alike now rest w))
    ∙ sym (ap (λ (l : List ℕ). laid (watched l w)) all)
