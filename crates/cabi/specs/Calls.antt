-- The calls from C and Rust, over images in lent buffers: what each answers, in document 01's numbers, and what stands in each buffer after it.
use Rattle.std.specs.Prelude.{cond, ◌&&◌, ℕ, ◌+◌, ◌*◌, eqb, ltb, length}
use Rattle.std.specs.Result.{result_unwrap_or}
use mathlib.Core.List.{List, [], ◌∷◌, foldl}
use Rattle.std.proofs.lemmas.List.Edits.{sets}
use Rattle.model.specs.declared.Outcome.{Outcome}
use Rattle.model.specs.declared.Answer.{Answer}
use Rattle.model.specs.declared.Answer.TheVariants.{ShortRoom}
use Rattle.model.specs.Cost.{free}
use Rattle.model.specs.Event.{number_of, answer_code, fresh, event}
use Rattle.model.specs.Run.{Order, code_of}
use Rattle.image.specs.Image.{encode, decode, write_answer, written, room_after}

-- yarvelow_fresh: BAD SIZE, then SHORT ROOM; the answer's number and 256 times the image's length
unfoldable pub fresh_answer : ℕ → ℕ → Answer
fresh_answer d n = cond (eqb (number_of (fresh d).answer) 0) (write_answer (fresh d).table n) (fresh d).answer

unfoldable pub fresh_call : ℕ → ℕ → ℕ
fresh_call d n = number_of (fresh_answer d n) + 256 * result_unwrap_or (written (fresh_answer d n) (fresh d).table) 0

unfoldable pub fresh_room : ℕ → List ℕ → List ℕ
fresh_room d room = room_after (fresh_answer d (length room)) (fresh d).table room

-- yarvelow_check: the reader's answer, with what is bad in a bad table
unfoldable pub check_call : List ℕ → ℕ
check_call image = answer_code (decode image).answer

-- yarvelow_event: the reader's refusals, then the event's. Done, the image of the table after it; refused, every byte as it was
abbrev pub event_on : List ℕ → ℕ → ℕ → Outcome
event_on bs k e = cond (eqb (number_of (decode bs).answer) 0) (event (decode bs).table k e) (free (decode bs).answer (decode bs).table)

unfoldable pub event_call : List ℕ → ℕ → ℕ → ℕ
event_call image k e = code_of (event_on image k e)

unfoldable pub event_image : List ℕ → ℕ → ℕ → List ℕ
event_image image k e = cond (eqb (number_of (event_on image k e).answer) 0) (encode (event_on image k e).table) image

-- yarvelow_event_into: the same refusals, then SHORT ROOM. Done, the image of the table after the event at the start of `next`; else `next` as it was
abbrev pub into_on : List ℕ → ℕ → ℕ → ℕ → Outcome
into_on image n k e = cond (eqb (number_of (event_on image k e).answer) 0 && ltb n (length image)) (free ShortRoom (event_on image k e).table) (event_on image k e)

unfoldable pub into_call : List ℕ → ℕ → ℕ → ℕ → ℕ
into_call image n k e = code_of (into_on image n k e)

unfoldable pub into_next : List ℕ → List ℕ → ℕ → ℕ → List ℕ
into_next image next k e = room_after (into_on image (length next) k e).answer (event_on image k e).table next

-- that many calls of yarvelow_event, one after the other: what they answer, and the image after the last
unfoldable pub calls : List ℕ → List Order → List ℕ
calls image [] = []
calls image (o ∷ os) = event_call image o.port o.event ∷ calls (event_image image o.port o.event) os

unfoldable pub calls_image : List ℕ → List Order → List ℕ
calls_image image os = foldl (λ now o. event_image now o.port o.event) image os

-- yarvelow_run answers what the reader does. Its image is that of as many calls; where the reader refuses, the places for answers stay as they were
unfoldable pub run_places : List ℕ → List Order → List ℕ → List ℕ
run_places image os places = cond (eqb (number_of (decode image).answer) 0) (sets places 0 (calls image os)) places
