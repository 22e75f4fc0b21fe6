-- What a sink that tells was given, as one list that only grows: what it stands on since a command began, spelled before the bytes. Who
-- writes to it knows that list alone, and learns from it that what it stands on is as it was.
use Rattle.std.specs.Prelude.{ℕ, List, ◌∷◌, Option}
use Rattle.std.specs.Coded.{Coded, coded_ℕ, coded_list, coded_option, coded×}
use base.Stored.{Gv, gnil, gnum, gcons}
use Rattle.fw_trace_lines.specs.Commands.{Traced}
use Rattle.fw_trace_lines.specs.contracts.tracer.Tracer.{the_row}

-- a tree of numbers, spelled before a list
abbrev pub spelled : Gv → List ℕ → List ℕ
spelled gnil rest = 0 ∷ rest
spelled (gnum n) rest = 1 ∷ n ∷ rest
spelled (gcons a b) rest = 2 ∷ spelled a (spelled b rest)

-- what a sink that tells stands on: which sink it writes to, what that held and how often it had failed, the tracer, and the bytes
-- that were read before
abbrev pub Base : Type 0
Base = ℕ × (Option (List ℕ) × (ℕ × (Traced × List ℕ)))

-- how it is stored
abbrev pub base_code : Coded Base
base_code = coded× coded_ℕ (coded× (coded_option (coded_list coded_ℕ)) (coded× coded_ℕ (coded× the_row.coded (coded_list coded_ℕ))))

-- what it stands on, and the bytes after it
unfoldable pub framed : Base → List ℕ → List ℕ
framed base bytes = spelled (base_code.code base) bytes
