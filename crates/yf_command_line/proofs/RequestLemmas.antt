-- The program's command is one for which the library gives the matches exactly.
use Rattle.std.proofs.Common.{◌≡◌, ◌≢◌, ◌⊎◌, ◌∙◌, ℕ, true, List, [], Result, Ok, Err, MatchResult}
use Rattle.std.proofs.Common.{Some, arith, ap, codes, refl, slice_index, sym, subst, inl, inr}
use Rattle.std.specs.Prelude.{⊤}
use Rattle.clap.specs.Words.{Row, Text, fault_of, is_simple, is_simple_and_free, matches_of, subcommand_of, IsAmong}
use Rattle.clap.specs.declared.error.kind.ErrorKind.{ErrorKind}
use Rattle.clap.specs.declared.error.kind.ErrorKind.TheVariants.{OutOfMemory}
use Rattle.clap.proofs.OnLiterals.{clap_on_literals}
use Rattle.yf_command_line.specs.Options.{yamlfmt}
use Rattle.yf_command_line.specs.Requests.{AsksFor, AsksPage, AsksTwice, IsCommand, IsNoRequest, IsRequest, IsUsageOf}
use Rattle.yf_command_line.specs.Requests.{MakesNoRequest, Met, RefusedBy, RefusesWords}
use Rattle.yf_command_line.specs.declared.command.Command.{Command}
use Rattle.yf_command_line.specs.declared.command.Command.TheVariants as command
use Rattle.yf_command_line.specs.declared.command.Request.{Request}
use Rattle.yf_command_line.specs.declared.usage.Usage.{Usage}
use Rattle.yf_command_line.specs.declared.usage.Usage.TheVariants.{Help, Wrong, Memory}
use Rattle.yf_rule_pages.specs.declared.page.Page.{Page}

pub yamlfmt_is_simple : is_simple yamlfmt ≡ true
unfolding clap_on_literals yamlfmt
yamlfmt_is_simple = refl

pub yamlfmt_is_free : is_simple_and_free yamlfmt ≡ true
unfolding clap_on_literals yamlfmt
yamlfmt_is_free = refl

-- Words that the library accepts.
pub accepted : (rules : List Text) (pages : List Page) (before : List Row) (met : Met) (words : List Text)
    (r : Result Request Usage)
    → before ≡ matches_of yamlfmt words → met ≡ subcommand_of yamlfmt words → fault_of yamlfmt words ≡ []
    → MatchResult r (IsRequest rules before met) (MakesNoRequest rules pages met)
    → MatchResult r (AsksFor rules words) (RefusesWords rules pages words)
accepted rules pages before met words (Ok request) b e f h =
    let named : IsRequest rules before (subcommand_of yamlfmt words) request =
    subst (λ (m : Met). IsRequest rules before m request) e h in
    (f, subst (λ (rows : List Row). IsRequest rules rows (subcommand_of yamlfmt words) request) b named)
accepted rules pages before met words (Err (Help text)) b e f h =
    inr (f, subst (λ (m : Met). AsksPage pages m text) e h)
accepted rules pages before met words (Err (Wrong text)) b e f h =
    inr (f, subst (λ (m : Met). IsNoRequest rules pages m) e h)
accepted rules pages before met words (Err Memory) b e f h = tt

-- Words that the library refuses.
pub refused : (rules : List Text) (pages : List Page) (kind : ErrorKind) (words : List Text) (usage : Usage)
    → (kind ≡ OutOfMemory) ⊎ IsAmong kind (fault_of yamlfmt words) → IsUsageOf kind usage
    → RefusesWords rules pages words usage
refused rules pages kind words (Help text) (inl e) (inl help) = cc
refused rules pages kind words (Help text) (inl e) (inr version) = cc
refused rules pages kind words (Help text) (inr among) a = inl (kind, a, among)
refused rules pages kind words (Wrong text) (inl e) a = absurd (a.1 e)
refused rules pages kind words (Wrong text) (inr among) a = inl (kind, a.0, among)
refused rules pages kind words Memory among a = tt

-- Two texts differ if they differ at an index.
pub other_at : (k : ℕ) (a b : Text) → slice_index a k ≢ slice_index b k → a ≢ b
other_at k a b differ e = differ (ap (λ (l : Text). slice_index l k) e)

-- No command has the name `explain`.
pub other_explain : (codes "events" ≢ codes "explain") × (codes "check" ≢ codes "explain")
    × (codes "fmt" ≢ codes "explain") × (codes "server" ≢ codes "explain")
other_explain = (
  λ e. other_at 1 (codes "events") (codes "explain") (λ h. let bad : 118 ≡ 120 = h in absurd (omega arith)) e,
  λ e. other_at 0 (codes "check") (codes "explain") (λ h. let bad : 99 ≡ 101 = h in absurd (omega arith)) e,
  λ e. other_at 0 (codes "fmt") (codes "explain") (λ h. let bad : 102 ≡ 101 = h in absurd (omega arith)) e,
  λ e. other_at 0 (codes "server") (codes "explain") (λ h. let bad : 115 ≡ 101 = h in absurd (omega arith)) e,
)

pub not_explained : (rules : List Text) (name : Text) (given : List Row) (a : Command)
    → IsCommand rules name given a → name ≢ codes "explain"
not_explained rules name given (command.Events a) p e = other_explain.0 (sym p.0 ∙ e)
not_explained rules name given (command.Check a) p e = other_explain.1 (sym p.0 ∙ e)
not_explained rules name given (command.Fmt a) p e = other_explain.2 (sym p.0 ∙ e)
not_explained rules name given command.Server p e = other_explain.3 (sym p ∙ e)

-- A command with two settings makes no request.
pub two_settings : (rules : List Text) (pages : List Page) (met : Met) (name : Text) (given : List Row) (a : Command)
    (usage : Usage) → met ≡ Some (name, given) → IsCommand rules name given a → RefusedBy (AsksTwice given) usage
    → MakesNoRequest rules pages met usage
two_settings rules pages met name given a (Help text) is p twice = absurd twice
two_settings rules pages met name given a (Wrong text) is p twice =
    subst (λ (m : Met). IsNoRequest rules pages m) (sym is) (inr (not_explained rules name given a p, twice))
two_settings rules pages met name given a Memory is p twice = tt

-- A refusal without a cause is also one by any cause that holds.
pub refused_for : {cause : Type 0} (usage : Usage) → RefusedBy ⊤ usage → cause → RefusedBy cause usage
refused_for (Help text) none cause = absurd none
refused_for (Wrong text) none cause = cause
refused_for Memory none cause = tt
