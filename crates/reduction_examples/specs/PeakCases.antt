-- Cases in which the matrix or one companion alone holds the peak of document 02, Note 4.
-- Written by tests/make_reduction_examples.py: the expected outcomes are those of the Python model of document 01, tests/model/reduction.py.
use Rattle.std.specs.Prelude.{List, [], ◌∷◌, pos}
use Rattle.reduction_steps.specs.Step.{done}
use Rattle.reduction_examples.specs.Case.{Case, minus, with_all, alone, from_identities, bare}

abbrev pub peaks : List Case
peaks =
    -- the matrix holds the peak, on the way alone
    from_identities 1000 (alone 3 2)
    ((pos 1 ∷ pos 15 ∷ []) ∷ (minus 1 ∷ pos 10 ∷ []) ∷ (pos 0 ∷ pos 1 ∷ []) ∷ [])
    (done 2 (bare 3 2 ((pos 1 ∷ pos 0 ∷ []) ∷ (pos 0 ∷ pos 1 ∷ []) ∷ (pos 0 ∷ pos 0 ∷ []) ∷ []) 25))
    -- the row follower holds the peak
    ∷ from_identities 1000 (with_all 3 1) ((pos 9 ∷ []) ∷ (pos 6 ∷ []) ∷ (minus 7 ∷ []) ∷ []) (done 1 (record {
      matrix = (pos 1 ∷ []) ∷ (pos 0 ∷ []) ∷ (pos 0 ∷ []) ∷ [];
      row_follower = (pos 2 ∷ minus 4 ∷ minus 1 ∷ []) ∷ (minus 2 ∷ pos 3 ∷ pos 0 ∷ []) ∷ (minus 5 ∷ pos 11 ∷ pos 3 ∷ []) ∷ [];
      row_inverse = (pos 9 ∷ pos 6 ∷ minus 7 ∷ []) ∷ (pos 1 ∷ pos 1 ∷ minus 2 ∷ []) ∷ (pos 3 ∷ pos 2 ∷ minus 2 ∷ []) ∷ [];
      column_follower = (pos 1 ∷ []) ∷ [];
      column_inverse = (pos 1 ∷ []) ∷ [];
      peak = 11;
    }))
    -- the inverse of the row follower holds the peak
    ∷ from_identities 1000 (with_all 4 1) ((minus 5 ∷ []) ∷ (pos 0 ∷ []) ∷ (pos 6 ∷ []) ∷ (minus 6 ∷ []) ∷ []) (done 1 (record {
      matrix = (pos 1 ∷ []) ∷ (pos 0 ∷ []) ∷ (pos 0 ∷ []) ∷ (pos 0 ∷ []) ∷ [];
      row_follower = (pos 1 ∷ pos 0 ∷ pos 1 ∷ pos 0 ∷ []) ∷ (pos 0 ∷ pos 1 ∷ pos 0 ∷ pos 0 ∷ []) ∷ (minus 6 ∷ pos 0 ∷ minus 5 ∷ pos 0 ∷ []) ∷ (minus 6 ∷ pos 0 ∷ minus 4 ∷ pos 1 ∷ []) ∷ [];
      row_inverse = (minus 5 ∷ pos 0 ∷ pos 6 ∷ minus 6 ∷ []) ∷ (pos 0 ∷ pos 1 ∷ pos 0 ∷ pos 0 ∷ []) ∷ (minus 1 ∷ pos 0 ∷ pos 1 ∷ minus 2 ∷ []) ∷ (pos 0 ∷ pos 0 ∷ pos 0 ∷ pos 1 ∷ []) ∷ [];
      column_follower = (pos 1 ∷ []) ∷ [];
      column_inverse = (pos 1 ∷ []) ∷ [];
      peak = 10;
    }))
    -- the column follower holds the peak
    ∷ from_identities 1000 (with_all 2 4) ((minus 1 ∷ pos 9 ∷ pos 7 ∷ pos 0 ∷ []) ∷ (pos 0 ∷ minus 7 ∷ pos 0 ∷ minus 6 ∷ []) ∷ []) (done 2 (record {
      matrix = (pos 1 ∷ pos 0 ∷ pos 0 ∷ pos 0 ∷ []) ∷ (pos 0 ∷ pos 1 ∷ pos 0 ∷ pos 0 ∷ []) ∷ [];
      row_follower = (minus 1 ∷ pos 0 ∷ []) ∷ (pos 0 ∷ minus 1 ∷ []) ∷ [];
      row_inverse = (minus 1 ∷ pos 0 ∷ []) ∷ (pos 0 ∷ minus 1 ∷ []) ∷ [];
      column_follower = (pos 1 ∷ pos 0 ∷ pos 0 ∷ pos 0 ∷ []) ∷ (pos 9 ∷ pos 1 ∷ pos 0 ∷ minus 1 ∷ []) ∷ (pos 7 ∷ pos 0 ∷ pos 1 ∷ pos 0 ∷ []) ∷ (minus 54 ∷ minus 6 ∷ pos 0 ∷ pos 7 ∷ []) ∷ [];
      column_inverse = (pos 1 ∷ minus 9 ∷ minus 7 ∷ pos 0 ∷ []) ∷ (pos 0 ∷ pos 7 ∷ pos 0 ∷ pos 6 ∷ []) ∷ (pos 0 ∷ pos 0 ∷ pos 1 ∷ pos 0 ∷ []) ∷ (pos 0 ∷ pos 1 ∷ pos 0 ∷ pos 1 ∷ []) ∷ [];
      peak = 54;
    }))
    -- the inverse of the column follower holds the peak
    ∷ from_identities 1000 (with_all 1 4) ((pos 9 ∷ minus 9 ∷ pos 5 ∷ minus 6 ∷ []) ∷ []) (done 1 (record {
      matrix = (pos 1 ∷ pos 0 ∷ pos 0 ∷ pos 0 ∷ []) ∷ [];
      row_follower = (pos 1 ∷ []) ∷ [];
      row_inverse = (pos 1 ∷ []) ∷ [];
      column_follower = (pos 0 ∷ pos 1 ∷ pos 2 ∷ pos 0 ∷ []) ∷ (pos 0 ∷ minus 5 ∷ minus 9 ∷ pos 0 ∷ []) ∷ (pos 1 ∷ minus 4 ∷ minus 9 ∷ pos 0 ∷ []) ∷ (pos 0 ∷ minus 4 ∷ minus 6 ∷ pos 1 ∷ []) ∷ [];
      column_inverse = (pos 9 ∷ minus 9 ∷ pos 5 ∷ minus 6 ∷ []) ∷ (pos 1 ∷ minus 2 ∷ pos 1 ∷ minus 2 ∷ []) ∷ (pos 1 ∷ pos 0 ∷ pos 0 ∷ pos 0 ∷ []) ∷ (pos 0 ∷ pos 0 ∷ pos 0 ∷ pos 1 ∷ []) ∷ [];
      peak = 10;
    }))
    ∷ []
