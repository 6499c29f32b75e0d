-- The numbers by which the refusals are known, and the refusal of a scan that was given up.
use Rattle.std.specs.Prelude.{ℕ}
use Rattle.refusals.specs.declared.MountRefusal.{MountRefusal}
use Rattle.refusals.specs.declared.MountRefusal.TheVariants.{NotFlatCode}
use Rattle.refusals.specs.declared.StartRefusal.{StartRefusal}
use Rattle.refusals.specs.declared.StartRefusal.TheVariants.{OtherKind as StartKind, Short as StartShort}
use Rattle.refusals.specs.declared.ScanRefusal.{ScanRefusal}
use Rattle.refusals.specs.declared.Place.{Place}
use Rattle.refusals.specs.declared.Fault.{Fault}
use Rattle.refusals.specs.declared.Fault.TheVariants.{Divisor as ByDivisor, Stack as ByStack}
use Rattle.refusals.specs.declared.ScanRefusal.TheVariants.{OtherKind, Short, Down, Divisor, Stack}

-- Of mount, of start, of scan.
abbrev pub mount_number : MountRefusal → ℕ
mount_number NotFlatCode = 9

abbrev pub start_number : StartRefusal → ℕ
start_number StartKind = 10
start_number StartShort = 11

abbrev pub scan_number : {F : Type 0} → ScanRefusal F → ℕ
scan_number OtherKind = 10
scan_number Short = 11
scan_number (Down f) = 12
scan_number (Divisor p) = 13
scan_number (Stack p) = 14

-- The refusal of a scan that was given up for this fault, at this place.
abbrev pub refusal_of : {F : Type 0} → Fault → Place → ScanRefusal F
refusal_of ByDivisor p = Divisor p
refusal_of ByStack p = Stack p
