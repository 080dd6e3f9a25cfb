-- What the guard finds in the reading of a text, and the texts that a reader gives.
use Rattle.std.proofs.Common.{◌≡◌, ◌≤◌, ◌∙◌, ℕ, List, length, subst}
use Rattle.std.specs.Prelude.{Option}
use Rattle.std.specs.Str.{IsUtf8}
use Rattle.yf_events.specs.Tree.{DocumentTree, TreesOf}
use Rattle.yf_events.specs.declared.lists.Lists.{Lists}
use Rattle.yf_guard.specs.Guards.{IsVault, first_guarded}
use Rattle.yf_guard.specs.declared.guarded.Guarded.{Guarded}
use Rattle.yf_guarded.specs.Judged.{Gives, ReadGuard}
use Rattle.yf_laws.specs.Laws.{ReadingsAreOfTexts}
use Rattle.yf_rules.proofs.Runs.GivenTexts.{GivenText}
use Rattle.yf_rules.specs.Runs.Run.{Gave}
use Rattle.yf_rules.specs.declared.run.TheConstants.{INPUT_LIMIT}
use Rattle.yf_stream.specs.StreamReader.{TheReading}

-- A reading has trees, and the guard finds the first fault in them.
pub read_guard : (t : List ℕ) (r : Lists) (found : Option Guarded) → ReadingsAreOfTexts → IsUtf8 t → TheReading t r → ¬ (IsVault t)
    → (¬ (IsVault t) → (trees : List DocumentTree) → TreesOf r trees → found ≡ first_guarded t trees) → ReadGuard t found
read_guard t r found laws utf8 reads plain first =
    let textual = (laws t r utf8 reads.reads).textual in
    record {
      reading = r;
      reads = reads;
      trees = textual.trees;
      of_reading = textual.of_reading;
      first = first plain textual.trees textual.of_reading;
    }

-- The reader gave a text of which P holds.
pub gives : {P : List ℕ → Type 0} {known : Option (List ℕ)} {t : List ℕ} → GivenText known t → P t → Gives P known t
gives given holds = record { gave = given.gave; within = given.within; utf8 = given.utf8; holds = holds }

-- The bytes that were read are such a text.
pub gives_bytes : {P : List ℕ → Type 0} {known : Option (List ℕ)} {bytes slice t : List ℕ} → Gave known bytes → length bytes ≤ INPUT_LIMIT
    → slice ≡ bytes → IsUtf8 slice → t ≡ slice → P t → Gives P known bytes
gives_bytes {P} {known} {bytes} {slice} {t} gave within same utf8 is holds = record {
  gave = gave;
  within = within;
  utf8 = subst (λ (u : List ℕ). IsUtf8 u) same utf8;
  holds = subst P (is ∙ same) holds;
}
