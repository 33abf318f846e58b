-- What is proved of the calls, for a reader who knows the definitions in Calls and no proof.
use Rattle.std.specs.Prelude.{◌≡◌, refl, true, List, [], ◌∷◌, ◌++◌, ℕ, ◌+◌, ◌*◌, ◌≤◌, ◌<◌, length, get_or, take, drop}
use Rattle.std.proofs.Common.{sym, ne_eqb}
use Rattle.model.specs.declared.Table.{Table}
use Rattle.model.specs.Table.{room, Sized, fresh_table}
use Rattle.model.specs.Good.{good}
use Rattle.model.specs.Event.{number_of, stepping, crash}
use Rattle.model.specs.Run.{Order, order, ran, codes, stepless}
use Rattle.model.proofs.Statements.{one}
use Rattle.model.specs.Bytes.{Bytes}
use Rattle.model.specs.Layout.{size}
use Rattle.image.specs.Image.{encode, decode, room_after}
use Rattle.cabi.specs.Calls.{fresh_call, fresh_room, check_call, event_on, event_call, event_image, into_on, into_call, into_next, calls, calls_image, run_places}
use Rattle.cabi.specs.Laws.Calling.{code-done, event-unread, calls-run, into-begins}
use Rattle.cabi.specs.Laws.Running.{run-unread}
use Rattle.cabi.specs.Laws.Rack.{fresh-image, accepted-reached, inside-bytes, critical-bytes, back-bytes}

-- Two results that meet a promise are equal, and so are two contents of each buffer
pub fresh-one : (d n : ℕ) (r s : ℕ) → r ≡ fresh_call d n → s ≡ fresh_call d n → r ≡ s
fresh-one d n r s = one

pub fresh-room-one : (d : ℕ) (room r s : List ℕ) → r ≡ fresh_room d room → s ≡ fresh_room d room → r ≡ s
fresh-room-one d room r s = one

pub check-one : (image : List ℕ) (r s : ℕ) → r ≡ check_call image → s ≡ check_call image → r ≡ s
check-one image r s = one

pub event-one : (image : List ℕ) (k e r s : ℕ) → r ≡ event_call image k e → s ≡ event_call image k e → r ≡ s
event-one image k e r s = one

pub event-image-one : (image : List ℕ) (k e : ℕ) (r s : List ℕ) → r ≡ event_image image k e → s ≡ event_image image k e → r ≡ s
event-image-one image k e r s = one

pub into_one : (image : List ℕ) (n k e r s : ℕ) → r ≡ into_call image n k e → s ≡ into_call image n k e → r ≡ s
into_one image n k e r s = one

pub into-next-one : (image next : List ℕ) (k e : ℕ) (r s : List ℕ) → r ≡ into_next image next k e → s ≡ into_next image next k e → r ≡ s
into-next-one image next k e r s = one

pub run-image-one : (image : List ℕ) (os : List Order) (r s : List ℕ) → r ≡ calls_image image os → s ≡ calls_image image os → r ≡ s
run-image-one image os r s = one

pub run-answers-one : (image : List ℕ) (os : List Order) (places r s : List ℕ) → r ≡ run_places image os places → s ≡ run_places image os places → r ≡ s
run-answers-one image os places r s = one

-- A refusal leaves every byte: an event that the reader or the event itself refuses, one that is refused or finds too little room for the next image, and a
-- run that the reader refuses, with its places for answers
pub event-leaves : (image : List ℕ) (k e : ℕ) → (number_of (event_on image k e).answer ≡ 0 → ⊥) → event_image image k e ≡ image
unfolding event_image
event-leaves image k e n = rw (ne_eqb _ 0 n)

pub event-unread-leaves : (image : List ℕ) (k e : ℕ) → (check_call image ≡ 0 → ⊥) → event_image image k e ≡ image
unfolding check_call
event-unread-leaves image k e n = sym (event-unread image (check_call image) refl (λ z. n (sym (code-done (decode image).answer z))) k e).1

pub into-leaves : (image next : List ℕ) (k e : ℕ) → (number_of (into_on image (length next) k e).answer ≡ 0 → ⊥) → into_next image next k e ≡ next
unfolding into_next room_after
into-leaves image next k e n = rw (ne_eqb _ 0 n)

pub run-leaves : (image : List ℕ) (os : List Order) (places : List ℕ) → (check_call image ≡ 0 → ⊥) → (calls_image image os ≡ image) × (run_places image os places ≡ places)
unfolding check_call
run-leaves image os places n =
    let r = run-unread image (check_call image) refl (λ z. n (sym (code-done (decode image).answer z))) os places in
    (sym r.1.0, sym r.1.1)

-- Done into another buffer, an event answers what it answers where the image stands; the buffer begins with the image after it, and keeps what stood after that
pub into_next_lem : (image next : List ℕ) (k e : ℕ) → Bytes image → number_of (into_on image (length next) k e).answer ≡ 0
    → (into_call image (length next) k e ≡ event_call image k e)
    × (take (length image) (into_next image next k e) ≡ event_image image k e)
    × (drop (length image) (into_next image next k e) ≡ drop (length image) next)
into_next_lem image next k e f d = into-begins image next k e d f

-- Calls on the image of a good table are events on the table: the same answers and costs, and the image of the table after the last
pub calls-are-events : (t : Table) (os : List Order) → Sized t → good t ≡ true
    → (calls (encode t) os ≡ codes t os) × (calls_image (encode t) os ≡ encode (ran t os))
calls-are-events = calls-run

-- From here on: for D from 1 to the room. `yarvelow_fresh` writes the image of the fresh table at the start of a room that it fits into
module _ (d : ℕ) (some : 1 ≤ d) (fits : d ≤ room) where
  pub fresh-writes : (out : List ℕ) → size d ≤ length out
      → (fresh_call d (length out) ≡ 256 * size d)
      × (take (size d) (fresh_room d out) ≡ encode (fresh_table d))
      × (drop (size d) (fresh_room d out) ≡ drop (size d) out)
  fresh-writes out h = fresh-image d some fits out h

  -- Over any calls from there: a run leaves the image of as many events (its contract), so all calls of `yarvelow_event` and `yarvelow_run` are one list of
  -- orders. The image is always accepted
  pub always-accepted : (os : List Order) → check_call (calls_image (encode (fresh_table d)) os) ≡ 0
  always-accepted = accepted-reached d some fits

  -- Demand 3, in the bytes of the image: two ports whose point, byte 26 + 16 k of port k, is 11 are the same port
  pub one-inside-bytes : (os : List Order) (j k : ℕ) → j < d → k < d
      → get_or (calls_image (encode (fresh_table d)) os) (26 + 16 * j) 0 ≡ 11
      → get_or (calls_image (encode (fresh_table d)) os) (26 + 16 * k) 0 ≡ 11
      → j ≡ k
  one-inside-bytes = inside-bytes d some fits

  -- a port whose STATUS, byte 27 + 16 k, is 1, the critical status, keeps it under every call but a step of its own while its point is 13
  pub keeps-bytes : (os : List Order) (k : ℕ) (o : Order) → k < d
      → get_or (calls_image (encode (fresh_table d)) os) (27 + 16 * k) 0 ≡ 1
      → (o.port ≡ k → o.event ≡ stepping → get_or (calls_image (encode (fresh_table d)) os) (26 + 16 * k) 0 ≡ 13 → ⊥)
      → get_or (calls_image (encode (fresh_table d)) (os ++ (o ∷ []))) (27 + 16 * k) 0 ≡ 1
  keeps-bytes = critical-bytes d some fits

  -- and after a crash, and whatever calls follow that are no step of its own, its next step puts it at point 11
  pub returns-bytes : (os : List Order) (k : ℕ) (more : List Order) → k < d
      → get_or (calls_image (encode (fresh_table d)) os) (27 + 16 * k) 0 ≡ 1
      → stepless k more ≡ true
      → get_or (calls_image (encode (fresh_table d)) (os ++ (order k crash ∷ (more ++ (order k stepping ∷ []))))) (26 + 16 * k) 0 ≡ 11
  returns-bytes = back-bytes d some fits
