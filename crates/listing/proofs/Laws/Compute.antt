-- One name for the definitions of this crate: who unfolds it, and `everything` of the model, can compute a listing.
use mathlib.Core.List.{get_last_d}
use Rattle.std.specs.Prelude.{ℕ}
use Rattle.lines.specs.Line.{letter, digits, number, well_formed, event_of, opens, orders, lines}
use Rattle.text.specs.Text.{digits_in, decimal, point_text, line, bad}
use Rattle.listing.specs.Listing.{listed, opened, listing}

unfoldable pub whole : ℕ
unfolding get_last_d letter digits number well_formed event_of opens orders digits_in decimal point_text line bad lines listed opened listing
whole = 0
