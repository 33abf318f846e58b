-- What is written and what is read (document 01, 'The image' and 'Refusal numbers').
use Rattle.std.specs.Prelude.{cond, ℕ, ◌-◌, eqb, ltb, take, drop, replicate, Result, Ok, Err}
use mathlib.Core.List.{List, ◌++◌, map, flat_map}
use Rattle.std.proofs.lemmas.List.Edits.{sets}
use Rattle.model.specs.declared.Table.{Table}
use Rattle.model.specs.declared.Made.{Made}
use Rattle.model.specs.declared.Answer.{Answer}
use Rattle.model.specs.declared.Answer.TheVariants.{Done, BadTable, ShortRoom, BadImage}
use Rattle.model.specs.Table.{room, table, no_port, no_copies, fresh_table}
use Rattle.model.specs.Good.{good, bad_in}
use Rattle.model.specs.Event.{number_of}
use Rattle.model.specs.Bytes.{sum, pack, unpack, unpacks}
use Rattle.model.specs.Layout.{shared_widths, port_widths, copied_widths, copies_widths, head_widths, shared_values, port_values, copied_values, copies_values, head_values, shared_of, port_of, copies_of, port_place, copies_place, size, d_in, is_image}

-- the image of a table
unfoldable pub encode : Table → List ℕ
encode t = pack head_widths (head_values t.shared.d) ++ (pack shared_widths (shared_values t.shared)
    ++ (flat_map (pack port_widths) (map port_values (take t.shared.d t.ports))
    ++ (pack (copied_widths t.shared.d) (copied_values t.shared)
    ++ flat_map (pack (copies_widths t.shared.d)) (map copies_values (take t.shared.d t.copies)))))

-- the table of d ports that the bytes stand for; room kept for ports at or above d is all 0
unfoldable pub held : ℕ → List ℕ → Table
held d bs =
    table (map port_of (unpacks port_widths d (drop (port_place 0) bs)) ++ replicate (room - d) no_port)
    (map copies_of (unpacks (copies_widths d) d (drop (copies_place d 0) bs)) ++ replicate (room - d) no_copies)
    (shared_of d (unpack shared_widths (drop (sum head_widths) bs)) (unpack (copied_widths d) (drop (port_place d) bs)))

-- a refused read gives the fresh table of D = 1
abbrev pub refused : Answer → Made
refused a = record { table = fresh_table 1; answer = a }

-- reading: BAD IMAGE, then BAD TABLE; else the table that the bytes stand for
unfoldable pub decode : List ℕ → Made
decode bs =
    let t = held (d_in bs) bs in
    cond (is_image bs) (cond (good t) (record { table = t; answer = Done }) (refused (BadTable (bad_in t)))) (refused BadImage)

-- what a check answers: D of an image that is accepted, else the reader's answer
unfoldable pub checked : List ℕ → Result ℕ Answer
checked bs = cond (eqb (number_of (decode bs).answer) 0) (Ok (d_in bs)) (Err (decode bs).answer)

-- what writing answers to a room of n bytes: BAD TABLE, then SHORT ROOM
unfoldable pub write_answer : Table → ℕ → Answer
write_answer t n = cond (good t) (cond (ltb n (size t.shared.d)) ShortRoom Done) (BadTable (bad_in t))

-- what goes with an answer: done, the image's length and the image at the room's start; else the refusal and the room as it was
unfoldable pub written : Answer → Table → Result ℕ Answer
written a t = cond (eqb (number_of a) 0) (Ok (size t.shared.d)) (Err a)

unfoldable pub room_after : Answer → Table → List ℕ → List ℕ
room_after a t out = cond (eqb (number_of a) 0) (sets out 0 (encode t)) out
