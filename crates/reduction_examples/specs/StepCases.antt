-- Cases for the steps a to e of document 01, and for the shapes of a matrix.
-- Written by tests/make_reduction_examples.py: the expected outcomes are those of the Python model of document 01, tests/model/reduction.py.
use Rattle.std.specs.Prelude.{List, [], ◌∷◌, pos}
use Rattle.reduction_steps.specs.Step.{done}
use Rattle.reduction_examples.specs.Case.{Case, minus, with_all, with_rows, with_columns, from_identities}

abbrev pub steps : List Case
steps =
    -- 2 and 3 on the diagonal end as 1 and 6
    from_identities 1000 (with_all 2 2) ((pos 2 ∷ pos 0 ∷ []) ∷ (pos 0 ∷ pos 3 ∷ []) ∷ []) (done 2 (record {
      matrix = (pos 1 ∷ pos 0 ∷ []) ∷ (pos 0 ∷ pos 6 ∷ []) ∷ [];
      row_follower = (pos 1 ∷ pos 1 ∷ []) ∷ (pos 3 ∷ pos 2 ∷ []) ∷ [];
      row_inverse = (minus 2 ∷ pos 3 ∷ []) ∷ (pos 1 ∷ minus 1 ∷ []) ∷ [];
      column_follower = (minus 1 ∷ pos 1 ∷ []) ∷ (pos 3 ∷ minus 2 ∷ []) ∷ [];
      column_inverse = (pos 2 ∷ pos 3 ∷ []) ∷ (pos 1 ∷ pos 1 ∷ []) ∷ [];
      peak = 6;
    }))
    -- step e twice in one stage
    ∷ from_identities 1000 (with_all 3 3)
    ((pos 6 ∷ pos 0 ∷ pos 0 ∷ []) ∷ (pos 0 ∷ pos 10 ∷ pos 0 ∷ []) ∷ (pos 0 ∷ pos 0 ∷ pos 15 ∷ []) ∷ [])
    (done 3 (record {
      matrix = (pos 1 ∷ pos 0 ∷ pos 0 ∷ []) ∷ (pos 0 ∷ pos 30 ∷ pos 0 ∷ []) ∷ (pos 0 ∷ pos 0 ∷ pos 30 ∷ []) ∷ [];
      row_follower = (minus 2 ∷ minus 1 ∷ pos 1 ∷ []) ∷ (pos 5 ∷ pos 3 ∷ pos 0 ∷ []) ∷ (minus 30 ∷ minus 15 ∷ pos 14 ∷ []) ∷ [];
      row_inverse = (pos 42 ∷ minus 70 ∷ pos 15 ∷ []) ∷ (minus 1 ∷ pos 2 ∷ pos 0 ∷ []) ∷ (minus 3 ∷ pos 5 ∷ minus 1 ∷ []) ∷ [];
      column_follower = (pos 7 ∷ minus 7 ∷ pos 1 ∷ []) ∷ (minus 5 ∷ pos 6 ∷ pos 0 ∷ []) ∷ (minus 15 ∷ pos 15 ∷ minus 2 ∷ []) ∷ [];
      column_inverse = (minus 12 ∷ minus 10 ∷ pos 15 ∷ []) ∷ (pos 1 ∷ pos 1 ∷ pos 0 ∷ []) ∷ (minus 6 ∷ minus 5 ∷ pos 7 ∷ []) ∷ [];
      peak = 70;
    }))
    -- step e takes the first row with an entry that the pivot does not divide
    ∷ from_identities 1000 (with_all 3 3)
    ((pos 4 ∷ pos 0 ∷ pos 0 ∷ []) ∷ (pos 0 ∷ pos 6 ∷ pos 0 ∷ []) ∷ (pos 0 ∷ pos 0 ∷ pos 5 ∷ []) ∷ [])
    (done 3 (record {
      matrix = (pos 1 ∷ pos 0 ∷ pos 0 ∷ []) ∷ (pos 0 ∷ pos 2 ∷ pos 0 ∷ []) ∷ (pos 0 ∷ pos 0 ∷ pos 60 ∷ []) ∷ [];
      row_follower = (pos 1 ∷ pos 1 ∷ pos 1 ∷ []) ∷ (pos 1 ∷ minus 1 ∷ minus 4 ∷ []) ∷ (pos 15 ∷ minus 20 ∷ minus 72 ∷ []) ∷ [];
      row_inverse = (pos 8 ∷ minus 12 ∷ pos 5 ∷ []) ∷ (minus 52 ∷ pos 87 ∷ minus 35 ∷ []) ∷ (pos 3 ∷ minus 5 ∷ pos 2 ∷ []) ∷ [];
      column_follower = (pos 2 ∷ minus 2 ∷ pos 1 ∷ []) ∷ (minus 26 ∷ pos 29 ∷ minus 14 ∷ []) ∷ (pos 45 ∷ minus 50 ∷ pos 24 ∷ []) ∷ [];
      column_inverse = (pos 4 ∷ pos 6 ∷ pos 5 ∷ []) ∷ (pos 2 ∷ minus 3 ∷ minus 10 ∷ []) ∷ (pos 1 ∷ minus 2 ∷ minus 6 ∷ []) ∷ [];
      peak = 87;
    }))
    -- step e returns to d
    ∷ from_identities 1000 (with_rows 2 2) ((minus 4 ∷ pos 3 ∷ []) ∷ (minus 2 ∷ pos 2 ∷ []) ∷ []) (done 2 (record {
      matrix = (pos 1 ∷ pos 0 ∷ []) ∷ (pos 0 ∷ pos 2 ∷ []) ∷ [];
      row_follower = (pos 1 ∷ minus 3 ∷ []) ∷ (pos 2 ∷ minus 5 ∷ []) ∷ [];
      row_inverse = (minus 5 ∷ minus 2 ∷ []) ∷ (pos 3 ∷ pos 1 ∷ []) ∷ [];
      column_follower = [] ∷ [] ∷ [];
      column_inverse = [] ∷ [] ∷ [];
      peak = 5;
    }))
    -- quotients rounded down in the row pass
    ∷ from_identities 1000 (with_rows 2 1) ((pos 2 ∷ []) ∷ (minus 3 ∷ []) ∷ []) (done 1 (record {
      matrix = (pos 1 ∷ []) ∷ (pos 0 ∷ []) ∷ [];
      row_follower = (pos 2 ∷ pos 1 ∷ []) ∷ (minus 3 ∷ minus 2 ∷ []) ∷ [];
      row_inverse = (pos 2 ∷ minus 3 ∷ []) ∷ (pos 1 ∷ minus 2 ∷ []) ∷ [];
      column_follower = [] ∷ [];
      column_inverse = [] ∷ [];
      peak = 3;
    }))
    -- quotients rounded down in the column pass
    ∷ from_identities 1000 (with_columns 1 2) ((pos 2 ∷ minus 3 ∷ []) ∷ []) (done 1 (record {
      matrix = (pos 1 ∷ pos 0 ∷ []) ∷ [];
      row_follower = [] ∷ [];
      row_inverse = [] ∷ [];
      column_follower = (pos 2 ∷ pos 1 ∷ []) ∷ (minus 3 ∷ minus 2 ∷ []) ∷ [];
      column_inverse = (pos 2 ∷ minus 3 ∷ []) ∷ (pos 1 ∷ minus 2 ∷ []) ∷ [];
      peak = 3;
    }))
    -- quotients rounded down in both passes
    ∷ from_identities 1000 (with_all 3 3)
    ((pos 3 ∷ minus 7 ∷ pos 5 ∷ []) ∷ (minus 8 ∷ pos 4 ∷ minus 5 ∷ []) ∷ (pos 7 ∷ minus 7 ∷ pos 10 ∷ []) ∷ [])
    (done 3 (record {
      matrix = (pos 1 ∷ pos 0 ∷ pos 0 ∷ []) ∷ (pos 0 ∷ pos 1 ∷ pos 0 ∷ []) ∷ (pos 0 ∷ pos 0 ∷ pos 160 ∷ []) ∷ [];
      row_follower = (pos 3 ∷ pos 1 ∷ pos 0 ∷ []) ∷ (pos 7 ∷ pos 0 ∷ minus 3 ∷ []) ∷ (pos 439 ∷ pos 1 ∷ minus 187 ∷ []) ∷ [];
      row_inverse = (pos 3 ∷ minus 8 ∷ pos 7 ∷ []) ∷ (pos 187 ∷ minus 561 ∷ pos 436 ∷ []) ∷ (minus 3 ∷ pos 9 ∷ minus 7 ∷ []) ∷ [];
      column_follower = (pos 1 ∷ pos 0 ∷ pos 0 ∷ []) ∷ (pos 76 ∷ minus 2 ∷ minus 11 ∷ []) ∷ (minus 195 ∷ pos 5 ∷ pos 28 ∷ []) ∷ [];
      column_inverse = (pos 1 ∷ minus 17 ∷ pos 10 ∷ []) ∷ (pos 0 ∷ minus 28 ∷ pos 5 ∷ []) ∷ (pos 0 ∷ minus 11 ∷ pos 2 ∷ []) ∷ [];
      peak = 561;
    }))
    -- the row pass goes on behind a remainder
    ∷ from_identities 1000 (with_rows 3 1) ((pos 5 ∷ []) ∷ (pos 7 ∷ []) ∷ (pos 9 ∷ []) ∷ []) (done 1 (record {
      matrix = (pos 1 ∷ []) ∷ (pos 0 ∷ []) ∷ (pos 0 ∷ []) ∷ [];
      row_follower = (pos 3 ∷ minus 2 ∷ pos 0 ∷ []) ∷ (minus 7 ∷ pos 5 ∷ pos 0 ∷ []) ∷ (pos 1 ∷ minus 2 ∷ pos 1 ∷ []) ∷ [];
      row_inverse = (pos 5 ∷ pos 7 ∷ pos 9 ∷ []) ∷ (pos 2 ∷ pos 3 ∷ pos 4 ∷ []) ∷ (pos 0 ∷ pos 0 ∷ pos 1 ∷ []) ∷ [];
      column_follower = [] ∷ [];
      column_inverse = [] ∷ [];
      peak = 9;
    }))
    -- the column pass goes on behind a remainder
    ∷ from_identities 1000 (with_columns 1 3) ((pos 5 ∷ pos 7 ∷ pos 9 ∷ []) ∷ []) (done 1 (record {
      matrix = (pos 1 ∷ pos 0 ∷ pos 0 ∷ []) ∷ [];
      row_follower = [] ∷ [];
      row_inverse = [] ∷ [];
      column_follower = (pos 3 ∷ minus 2 ∷ pos 0 ∷ []) ∷ (minus 7 ∷ pos 5 ∷ pos 0 ∷ []) ∷ (pos 1 ∷ minus 2 ∷ pos 1 ∷ []) ∷ [];
      column_inverse = (pos 5 ∷ pos 7 ∷ pos 9 ∷ []) ∷ (pos 2 ∷ pos 3 ∷ pos 4 ∷ []) ∷ (pos 0 ∷ pos 0 ∷ pos 1 ∷ []) ∷ [];
      peak = 9;
    }))
    -- ties go to the lowest row, then to the lowest column
    ∷ from_identities 1000 (with_all 3 3)
    ((pos 0 ∷ pos 3 ∷ minus 2 ∷ []) ∷ (pos 2 ∷ minus 2 ∷ pos 4 ∷ []) ∷ (minus 2 ∷ pos 2 ∷ pos 6 ∷ []) ∷ [])
    (done 3 (record {
      matrix = (pos 1 ∷ pos 0 ∷ pos 0 ∷ []) ∷ (pos 0 ∷ pos 2 ∷ pos 0 ∷ []) ∷ (pos 0 ∷ pos 0 ∷ pos 30 ∷ []) ∷ [];
      row_follower = (minus 1 ∷ pos 0 ∷ pos 0 ∷ []) ∷ (pos 6 ∷ pos 1 ∷ pos 0 ∷ []) ∷ (minus 20 ∷ minus 1 ∷ minus 1 ∷ []) ∷ [];
      row_inverse = (minus 1 ∷ pos 6 ∷ pos 14 ∷ []) ∷ (pos 0 ∷ pos 1 ∷ minus 1 ∷ []) ∷ (pos 0 ∷ pos 0 ∷ minus 1 ∷ []) ∷ [];
      column_follower = (pos 0 ∷ pos 1 ∷ pos 2 ∷ []) ∷ (pos 1 ∷ pos 0 ∷ pos 0 ∷ []) ∷ (pos 4 ∷ minus 2 ∷ minus 3 ∷ []) ∷ [];
      column_inverse = (pos 0 ∷ minus 3 ∷ pos 2 ∷ []) ∷ (pos 1 ∷ pos 8 ∷ minus 4 ∷ []) ∷ (pos 0 ∷ minus 2 ∷ pos 1 ∷ []) ∷ [];
      peak = 30;
    }))
    -- a negative pivot, and rank 1
    ∷ from_identities 1000 (with_all 2 2) ((minus 1 ∷ pos 2 ∷ []) ∷ (pos 2 ∷ minus 4 ∷ []) ∷ []) (done 1 (record {
      matrix = (pos 1 ∷ pos 0 ∷ []) ∷ (pos 0 ∷ pos 0 ∷ []) ∷ [];
      row_follower = (minus 1 ∷ pos 0 ∷ []) ∷ (pos 2 ∷ pos 1 ∷ []) ∷ [];
      row_inverse = (minus 1 ∷ pos 2 ∷ []) ∷ (pos 0 ∷ pos 1 ∷ []) ∷ [];
      column_follower = (pos 1 ∷ pos 0 ∷ []) ∷ (pos 2 ∷ pos 1 ∷ []) ∷ [];
      column_inverse = (pos 1 ∷ minus 2 ∷ []) ∷ (pos 0 ∷ pos 1 ∷ []) ∷ [];
      peak = 4;
    }))
    -- swaps of rows and of columns, and returns from c, d and e
    ∷ from_identities 1000 (with_all 3 3)
    ((pos 4 ∷ pos 6 ∷ pos 8 ∷ []) ∷ (pos 6 ∷ pos 9 ∷ pos 1 ∷ []) ∷ (pos 8 ∷ pos 2 ∷ pos 6 ∷ []) ∷ [])
    (done 3 (record {
      matrix = (pos 1 ∷ pos 0 ∷ pos 0 ∷ []) ∷ (pos 0 ∷ pos 2 ∷ pos 0 ∷ []) ∷ (pos 0 ∷ pos 0 ∷ pos 220 ∷ []) ∷ [];
      row_follower = (pos 0 ∷ pos 1 ∷ pos 0 ∷ []) ∷ (pos 5 ∷ pos 8 ∷ minus 8 ∷ []) ∷ (pos 268 ∷ pos 430 ∷ minus 429 ∷ []) ∷ [];
      row_inverse = (pos 8 ∷ pos 1 ∷ pos 6 ∷ []) ∷ (pos 429 ∷ pos 0 ∷ pos 268 ∷ []) ∷ (minus 8 ∷ pos 0 ∷ minus 5 ∷ []) ∷ [];
      column_follower = (pos 0 ∷ pos 0 ∷ pos 1 ∷ []) ∷ (minus 21 ∷ pos 1 ∷ pos 117 ∷ []) ∷ (pos 43 ∷ minus 2 ∷ minus 240 ∷ []) ∷ [];
      column_inverse = (pos 6 ∷ pos 9 ∷ pos 1 ∷ []) ∷ (pos 2 ∷ pos 43 ∷ pos 0 ∷ []) ∷ (pos 1 ∷ pos 21 ∷ pos 0 ∷ []) ∷ [];
      peak = 430;
    }))
    ∷ []

abbrev pub shapes : List Case
shapes =
    -- zeros
    from_identities 1000 (with_all 2 3) ((pos 0 ∷ pos 0 ∷ pos 0 ∷ []) ∷ (pos 0 ∷ pos 0 ∷ pos 0 ∷ []) ∷ []) (done 0 (record {
      matrix = (pos 0 ∷ pos 0 ∷ pos 0 ∷ []) ∷ (pos 0 ∷ pos 0 ∷ pos 0 ∷ []) ∷ [];
      row_follower = (pos 1 ∷ pos 0 ∷ []) ∷ (pos 0 ∷ pos 1 ∷ []) ∷ [];
      row_inverse = (pos 1 ∷ pos 0 ∷ []) ∷ (pos 0 ∷ pos 1 ∷ []) ∷ [];
      column_follower = (pos 1 ∷ pos 0 ∷ pos 0 ∷ []) ∷ (pos 0 ∷ pos 1 ∷ pos 0 ∷ []) ∷ (pos 0 ∷ pos 0 ∷ pos 1 ∷ []) ∷ [];
      column_inverse = (pos 1 ∷ pos 0 ∷ pos 0 ∷ []) ∷ (pos 0 ∷ pos 1 ∷ pos 0 ∷ []) ∷ (pos 0 ∷ pos 0 ∷ pos 1 ∷ []) ∷ [];
      peak = 1;
    }))
    -- no rows
    ∷ from_identities 1000 (with_all 0 3) ([]) (done 0 (record {
      matrix = [];
      row_follower = [];
      row_inverse = [];
      column_follower = (pos 1 ∷ pos 0 ∷ pos 0 ∷ []) ∷ (pos 0 ∷ pos 1 ∷ pos 0 ∷ []) ∷ (pos 0 ∷ pos 0 ∷ pos 1 ∷ []) ∷ [];
      column_inverse = (pos 1 ∷ pos 0 ∷ pos 0 ∷ []) ∷ (pos 0 ∷ pos 1 ∷ pos 0 ∷ []) ∷ (pos 0 ∷ pos 0 ∷ pos 1 ∷ []) ∷ [];
      peak = 1;
    }))
    -- no columns
    ∷ from_identities 1000 (with_all 3 0) ([] ∷ [] ∷ [] ∷ []) (done 0 (record {
      matrix = [] ∷ [] ∷ [] ∷ [];
      row_follower = (pos 1 ∷ pos 0 ∷ pos 0 ∷ []) ∷ (pos 0 ∷ pos 1 ∷ pos 0 ∷ []) ∷ (pos 0 ∷ pos 0 ∷ pos 1 ∷ []) ∷ [];
      row_inverse = (pos 1 ∷ pos 0 ∷ pos 0 ∷ []) ∷ (pos 0 ∷ pos 1 ∷ pos 0 ∷ []) ∷ (pos 0 ∷ pos 0 ∷ pos 1 ∷ []) ∷ [];
      column_follower = [];
      column_inverse = [];
      peak = 1;
    }))
    -- companions that are not square
    ∷ record {
      limit = 1000;
      sizes = record { rows = 2; columns = 2; row_follower = 3; row_inverse = 3; column_follower = 1; column_inverse = 4 };
      start = record {
        matrix = (pos 4 ∷ pos 6 ∷ []) ∷ (minus 6 ∷ pos 3 ∷ []) ∷ [];
        row_follower = (pos 1 ∷ pos 0 ∷ minus 1 ∷ []) ∷ (pos 2 ∷ pos 1 ∷ pos 0 ∷ []) ∷ [];
        row_inverse = (pos 1 ∷ minus 2 ∷ pos 0 ∷ []) ∷ (pos 0 ∷ pos 1 ∷ pos 3 ∷ []) ∷ [];
        column_follower = (pos 1 ∷ []) ∷ (pos 2 ∷ []) ∷ [];
        column_inverse = (pos 0 ∷ pos 1 ∷ pos 5 ∷ pos 0 ∷ []) ∷ (pos 3 ∷ minus 2 ∷ pos 0 ∷ pos 0 ∷ []) ∷ [];
        peak = 6;
      };
      expected = done 2 (record {
        matrix = (pos 1 ∷ pos 0 ∷ []) ∷ (pos 0 ∷ pos 48 ∷ []) ∷ [];
        row_follower = (minus 1 ∷ minus 1 ∷ minus 1 ∷ []) ∷ (minus 13 ∷ minus 14 ∷ minus 15 ∷ []) ∷ [];
        row_inverse = (minus 14 ∷ pos 13 ∷ minus 45 ∷ []) ∷ (pos 1 ∷ minus 1 ∷ pos 3 ∷ []) ∷ [];
        column_follower = (minus 5 ∷ []) ∷ (pos 17 ∷ []) ∷ [];
        column_inverse = (pos 9 ∷ pos 4 ∷ pos 50 ∷ pos 0 ∷ []) ∷ (pos 3 ∷ pos 1 ∷ pos 15 ∷ pos 0 ∷ []) ∷ [];
        peak = 50;
      });
    }
    ∷ []
