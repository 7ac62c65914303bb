-- Chunks, and the device as the run of the events.
-- Assumes nothing.
use mathlib.Core.Path.{◌≡◌, refl, sym, ap, ◌∙◌}
use mathlib.Core.List.{append_assoc, map-append}
use Rattle.arbiter.specs.Steps.{run_from}
use Rattle.arbiter.proofs.Runs.{from_append}
use Rattle.capture.specs.Events.{raw_of}
use Rattle.std.specs.Prelude.{◌∷◌, ◌++◌}
use Rattle.watch.specs.Names.{List, [], map, Device, Raw, Event, Check, Watcher}
use Rattle.watch.specs.Stream.{followed, followed_all, heard_by, events_now, watched_at, watched, events_in}
use Rattle.watch.specs.Found.{checks_among, checks}
use Rattle.watch.specs.Answers.{ChunksAlike, EventsInChunks, ChecksInChunks, DeviceIsRun}

pub chunks_alike : ChunksAlike
unfolding watched
chunks_alike [] q w = refl
chunks_alike (x ∷ p) q w = chunks_alike p q (watched_at x w)

pub events_in_chunks : EventsInChunks
unfolding watched events_in
events_in_chunks [] q w = refl
events_in_chunks (x ∷ p) q w =
    ap (λ (l : List Event). events_now x w ++ l) (events_in_chunks p q (watched_at x w)) ∙ sym (append_assoc (events_now x w) _ _)

pub checks_in_chunks : ChecksInChunks
unfolding watched checks
checks_in_chunks [] q w = refl
checks_in_chunks (x ∷ p) q w =
    let now : List Check = checks_among (events_now x w) w in
    ap (λ (l : List Check). now ++ l) (checks_in_chunks p q (watched_at x w)) ∙ sym (append_assoc now _ _)

-- ---- the device

followed_run : (es : List Event) (w : Watcher) → (followed_all es w).device ≡ run_from w.device (map raw_of es)
unfolding followed_all followed run_from
followed_run [] w = refl
followed_run (e ∷ es) w = followed_run es (followed e w)

pub device_is_run : DeviceIsRun
unfolding watched events_in run_from watched_at heard_by
device_is_run [] w = refl
device_is_run (x ∷ xs) w =
    let now : List Event = events_now x w in
    let later : List Event = events_in xs (watched_at x w) in
    device_is_run xs (watched_at x w) ∙ ap (λ (d : Device). run_from d (map raw_of later)) (followed_run now w)
    ∙ sym (from_append (map raw_of now) (map raw_of later) w.device)
    ∙ sym (ap (λ (l : List Raw). run_from w.device l) (map-append raw_of now later))
