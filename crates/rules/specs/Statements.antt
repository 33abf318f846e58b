-- Two results that meet the promise of a function of this crate are equal: each promise gives one value at every argument.
use Rattle.std.specs.Prelude.{◌≡◌, Bool, ℕ, Option}
use Rattle.model.specs.declared.Work.{Work}
use Rattle.model.specs.declared.Port.{Port}
use Rattle.model.specs.declared.Copies.{Copies}
use Rattle.model.specs.declared.Shared.{Shared}
use Rattle.model.specs.declared.Table.{Table}
use Rattle.model.specs.declared.Fault.{Fault}
use Rattle.model.specs.Good.{bad_in}
use Rattle.model.specs.Parts.Good.{shared_good}
use Rattle.model.specs.Table.{size_good}
use Rattle.model.specs.Parts.Rules.{own_tests, unseen_tests, seen_tests, port_tests, joined_port, ports_of, slot_of}
use Rattle.model.proofs.Statements.{one}
use Rattle.rules.specs.Found.{found}

pub size-good-one : (d : ℕ) (r s : Bool) → r ≡ size_good d → s ≡ size_good d → r ≡ s
size-good-one d r s = one

pub shared-good-one : (s : Shared) (made : ℕ) (q r : Bool) → q ≡ shared_good s made → r ≡ shared_good s made → q ≡ r
shared-good-one s made q r = one

pub own-good-one : (s : Shared) (k : ℕ) (p : Port) (c : Copies) (q r : Bool) → q ≡ own_tests s k p c → r ≡ own_tests s k p c → q ≡ r
own-good-one s k p c q r = one

pub unseen-good-one : (d : ℕ) (w : Work) (q r : Bool) → q ≡ unseen_tests d w → r ≡ unseen_tests d w → q ≡ r
unseen-good-one d w q r = one

pub seen-good-one : (d point a b : ℕ) (w : Work) (q r : Bool) → q ≡ seen_tests d point a b w → r ≡ seen_tests d point a b w → q ≡ r
seen-good-one d point a b w q r = one

pub port-good-one : (s : Shared) (k : ℕ) (p : Port) (c : Copies) (a b : ℕ) (q r : Bool) → q ≡ port_tests s k p c a b → r ≡ port_tests s k p c a b → q ≡ r
port-good-one s k p c a b q r = one

pub joined-one : (p : Port) (c : Copies) (q r : ℕ) → q ≡ joined_port p c → r ≡ joined_port p c → q ≡ r
joined-one p c q r = one

pub ports-one : (d r s : ℕ) → r ≡ ports_of d → s ≡ ports_of d → r ≡ s
ports-one d r s = one

pub slot-one : (k r s : ℕ) → r ≡ slot_of k → s ≡ slot_of k → r ≡ s
slot-one k r s = one

pub bad-in-one : (t : Table) (r s : Option Fault) → r ≡ found (bad_in t) → s ≡ found (bad_in t) → r ≡ s
bad-in-one t r s = one
