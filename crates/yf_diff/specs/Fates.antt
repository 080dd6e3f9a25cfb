-- What the fields of a step mean.
use Rattle.std.specs.Prelude.{ℕ, List}
use Rattle.yf_diff.specs.declared.fate.Fate.{Fate}
use Rattle.yf_diff.specs.declared.fate.Fate.TheVariants.{Kept, Dropped, Added}
use Rattle.yf_diff.specs.Script.{Edit, kept, dropped, added}

abbrev pub edit_of : Fate → List ℕ → Edit
edit_of Kept line = kept line
edit_of Dropped line = dropped line
edit_of Added line = added line
