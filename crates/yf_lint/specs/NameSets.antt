-- Sets of names, as tests.
use Rattle.std.specs.Prelude.{◌≡◌, ℕ, Bool, List}
use Rattle.std.specs.BTreeSet.{BTreeSet, contains}
use Rattle.std.specs.Borrow.{Bor}
use Rattle.std.specs.Cmp.Lexicographic.{slice_cmp}
use Rattle.std.specs.Ordering.{nat_cmp}
use Rattle.std.specs.declared.cmp.Ordering.{Ordering}

abbrev pub name_cmp : Bor (List ℕ) → Bor (List ℕ) → Ordering
name_cmp a b = slice_cmp nat_cmp a.now b.now

-- the names that pass the test
pub record IsNameSet (test : List ℕ → Bool) (names : BTreeSet (Bor (List ℕ))) : Type 0 where
  pub same : (q : Bor (List ℕ)) → contains name_cmp names q ≡ test q.now
