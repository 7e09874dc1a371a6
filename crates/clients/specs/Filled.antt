-- What the surface call answers and leaves on the filled triangle, written out: its rim, the hollow triangle's loop, bounds the triangle.
use Rattle.std.specs.Prelude.{◌∷◌, ◌++◌, replicate, ℤ, pos}
use Rattle.trials.specs.Trial.{done, refused, Called}
use Rattle.reports.specs.Report.{Counts}
use Rattle.host_calls.specs.Host.{HostCalled}
use Rattle.clients.specs.Hollow.{nines, lent, one}

-- no free loop, no order, and no entry beyond 1
abbrev pub no_loops : Counts
no_loops = record { free = 0; torsion = 0; peak = 1; bits = 1 }

-- ---- the library's call, with 2 slots for the answer and 30 for the work

abbrev pub surface_done : Called Counts ℤ
surface_done = record { answer = done no_loops; output = pos 1 ∷ nines 1; work = replicate 30 (pos 0) }

abbrev pub surface_refused : Called Counts ℤ
surface_refused = record { answer = refused 12; output = nines 2; work = nines 30 }

-- ---- the host call, with 13 bytes

abbrev pub host_surface_done : HostCalled
host_surface_done = record { number = 0; output = one ++ lent 5 }

abbrev pub host_surface_refused : HostCalled
host_surface_refused = record { number = 12; output = lent 13 }
