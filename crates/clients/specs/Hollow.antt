-- The hollow triangle's chains, and what a call on it answers and leaves, written out.
use Rattle.std.specs.Prelude.{List, [], ◌∷◌, ◌++◌, ℕ, replicate, ℤ, pos, neg_ℤ}
use Rattle.trials.specs.Trial.{done, refused, Called}
use Rattle.reports.specs.Report.{Counts}
use Rattle.host_calls.specs.Host.{HostCalled}

-- slots and bytes as they are lent: what is left untouched shows
abbrev pub nines : ℕ → List ℤ
nines n = replicate n (pos 9)

abbrev pub lent : ℕ → List ℕ
lent n = replicate n 9

abbrev minus : ℕ → ℤ
minus n = neg_ℤ (pos n)

-- the loop, the loop run backwards, both, and one edge
abbrev pub loop : List ℤ
loop = pos 1 ∷ minus 1 ∷ pos 1 ∷ []

abbrev pub backwards : List ℤ
backwards = minus 1 ∷ pos 1 ∷ minus 1 ∷ []

abbrev pub both : List ℤ
both = loop ++ backwards

abbrev pub edge : List ℤ
edge = pos 1 ∷ pos 0 ∷ pos 0 ∷ []

-- the same in bytes
abbrev pub loop_bytes : List ℕ
loop_bytes = 1 ∷ 0 ∷ 0 ∷ 0 ∷ 255 ∷ 255 ∷ 255 ∷ 255 ∷ 1 ∷ 0 ∷ 0 ∷ 0 ∷ []

abbrev pub backwards_bytes : List ℕ
backwards_bytes = 255 ∷ 255 ∷ 255 ∷ 255 ∷ 1 ∷ 0 ∷ 0 ∷ 0 ∷ 255 ∷ 255 ∷ 255 ∷ 255 ∷ []

abbrev pub both_bytes : List ℕ
both_bytes = loop_bytes ++ backwards_bytes

abbrev pub edge_bytes : List ℕ
edge_bytes = 1 ∷ 0 ∷ 0 ∷ 0 ∷ 0 ∷ 0 ∷ 0 ∷ 0 ∷ 0 ∷ 0 ∷ 0 ∷ 0 ∷ []

-- one free loop, and no entry beyond 1
abbrev pub loops : Counts
loops = record { free = 1; torsion = 0; peak = 1; bits = 1 }

-- ---- the library's calls, with 16, 4, 7 and 2 slots for the answer and 30 for the work

abbrev pub report_done : Called Counts ℤ
report_done = record { answer = done loops; output = pos 1 ∷ pos 0 ∷ pos 1 ∷ minus 1 ∷ pos 1 ∷ nines 11; work = replicate 30 (pos 0) }

abbrev pub report_refused : Called Counts ℤ
report_refused = record { answer = refused 8; output = nines 16; work = nines 30 }

abbrev pub coordinates_done : Called Counts ℤ
coordinates_done = record { answer = done loops; output = minus 1 ∷ nines 3; work = replicate 30 (pos 0) }

abbrev pub coordinates_refused : Called Counts ℤ
coordinates_refused = record { answer = refused 12; output = nines 4; work = nines 30 }

abbrev pub lists_done : Called Counts ℤ
lists_done = record { answer = done loops; output = pos 1 ∷ pos 9 ∷ pos 9 ∷ minus 1 ∷ nines 3; work = replicate 30 (pos 0) }

abbrev pub lists_refused : Called Counts ℤ
lists_refused = record { answer = refused 10; output = nines 7; work = nines 30 }

-- the loop bounds nothing: the work slice reads 0 all the same
abbrev pub nothing_bounded : Called Counts ℤ
nothing_bounded = record { answer = refused 17; output = nines 2; work = replicate 30 (pos 0) }

-- ---- the host calls, with 118, 29, 51 and 13 bytes

abbrev pub one : List ℕ
one = 1 ∷ 0 ∷ 0 ∷ 0 ∷ 0 ∷ 0 ∷ 0 ∷ 0 ∷ []

abbrev minus_one : List ℕ
minus_one = 255 ∷ 255 ∷ 255 ∷ 255 ∷ 255 ∷ 255 ∷ 255 ∷ 255 ∷ []

abbrev pub host_report_done : HostCalled
host_report_done = record { number = 0; output = one ++ (replicate 8 0 ++ (one ++ (minus_one ++ (one ++ lent 78)))) }

abbrev pub host_report_refused : HostCalled
host_report_refused = record { number = 8; output = lent 118 }

abbrev pub host_coordinates_done : HostCalled
host_coordinates_done = record { number = 0; output = minus_one ++ lent 21 }

abbrev pub host_coordinates_refused : HostCalled
host_coordinates_refused = record { number = 12; output = lent 29 }

abbrev pub host_lists_done : HostCalled
host_lists_done = record { number = 0; output = one ++ (lent 16 ++ (minus_one ++ lent 19)) }

abbrev pub host_lists_refused : HostCalled
host_lists_refused = record { number = 10; output = lent 51 }

abbrev pub host_nothing_bounded : HostCalled
host_nothing_bounded = record { number = 17; output = lent 13 }

-- ---- the program: H 0 1 0, G 0 0 1, H 1 1 0, G 1 -1 1, H 2 0 0, H 3 0 0

abbrev pub hollow_text : List ℕ
hollow_text =
    72 ∷ 32 ∷ 48 ∷ 32 ∷ 49 ∷ 32 ∷ 48 ∷ 10
    ∷ 71 ∷ 32 ∷ 48 ∷ 32 ∷ 48 ∷ 32 ∷ 49 ∷ 10
    ∷ 72 ∷ 32 ∷ 49 ∷ 32 ∷ 49 ∷ 32 ∷ 48 ∷ 10
    ∷ 71 ∷ 32 ∷ 49 ∷ 32 ∷ 45 ∷ 49 ∷ 32 ∷ 49 ∷ 10
    ∷ 72 ∷ 32 ∷ 50 ∷ 32 ∷ 48 ∷ 32 ∷ 48 ∷ 10
    ∷ 72 ∷ 32 ∷ 51 ∷ 32 ∷ 48 ∷ 32 ∷ 48 ∷ 10 ∷ []
