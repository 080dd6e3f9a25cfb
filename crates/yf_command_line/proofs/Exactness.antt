-- Each line of words asks for one request, asks for a text or is refused: `AsksFor` and `RefusesWords` are exact. Words
-- that ask for a request do nothing else, and words for which `explain` prints a text are not refused. The only refusal
-- that is possible for any words is that of memory.
use Rattle.std.proofs.Common.{◌≡◌, ◌≢◌, ◌⊎◌, ◌||◌, ℕ, Bool, true, false, List, [], ◌∷◌, codes}
use Rattle.std.proofs.Common.{Vec, Option, Some, None, refl, sym, ap, subst, ◌∙◌, inl, inr, arith}
use Rattle.std.proofs.lemmas.Bool.{false≢true}
use Rattle.std.proofs.lemmas.Option.{same_Some}
use Rattle.std.proofs.lemmas.Slice.Eq.{bytes_eq-Decides}
use Rattle.std.specs.Str.{bytes_eq}
use Rattle.std.specs.declared.alloc.Global.{Global}
use Rattle.clap.specs.Words.{IsAmong, Row, Text, fault_of, matches_of, subcommand_of}
use Rattle.clap.specs.declared.error.kind.ErrorKind.{ErrorKind}
use Rattle.clap.specs.declared.error.kind.ErrorKind.TheVariants.{DisplayHelp, DisplayVersion}
use Rattle.yf_line_ranges.specs.declared.range.LineRange.{LineRange}
use Rattle.yf_command_line.specs.Options.{yamlfmt}
use Rattle.yf_command_line.specs.Requests.{AsksFor, AsksPage, AsksText, Explains, IsCommand, IsNoCommand, IsNoRequest}
use Rattle.yf_command_line.specs.Requests.{IsRequest, Met, RefusesWords, explained_given, files_given, first_input}
use Rattle.yf_command_line.specs.Requests.{is_flag, AsksTwice, IsSettings, config_given, stdin_name_given}
use Rattle.yf_command_line.specs.Requests.{takes_defaults}
use Rattle.yf_command_line.specs.Requests.IsNoCommand.{other_name, no_check, no_fmt, no_page}
use Rattle.yf_command_line.specs.declared.command.Command.{Command}
use Rattle.yf_command_line.specs.declared.command.Command.TheVariants as command
use Rattle.yf_command_line.specs.declared.command.Input.{Input}
use Rattle.yf_command_line.specs.declared.command.Request.{Request}
use Rattle.yf_command_line.specs.declared.command.Settings.{Settings}
use Rattle.yf_command_line.specs.declared.command.Settings.TheVariants as asked
use Rattle.yf_command_line.specs.declared.usage.Usage.TheVariants.{Help, Wrong}
use Rattle.yf_command_line.proofs.CheckExactness.{SameCheck, check_not_both, check_once, check_or_not}
use Rattle.yf_command_line.proofs.FmtExactness.{SameFmt, fmt_not_both, fmt_once, fmt_or_not}
use Rattle.yf_command_line.proofs.FmtFormatExactness.{SameOutput, format_not_both, format_or_not, output_once}
use Rattle.yf_command_line.proofs.RequestLemmas.{not_explained, other_at, other_explain}
use Rattle.yf_rule_pages.specs.declared.page.Page.{Page}

-- ---- at most one request

-- The two are equal, except for the capacity of their vectors.
abbrev pub SameCommand : Command → Command → Type 0
SameCommand (command.Events a) (command.Events b) = a ≡ b
SameCommand (command.Check a) (command.Check b) = SameCheck a b
SameCommand (command.Fmt a) (command.Fmt b) = SameFmt a b × SameOutput a b
SameCommand command.Server command.Server = Unit {0}
SameCommand _ _ = ⊥

-- The names of two commands differ.
other_names : (codes "events" ≢ codes "check") × (codes "events" ≢ codes "fmt") × (codes "check" ≢ codes "fmt")
    × (codes "events" ≢ codes "server") × (codes "check" ≢ codes "server") × (codes "fmt" ≢ codes "server")
other_names = (
  λ e. cc,
  λ e. cc,
  λ e. cc,
  λ e. other_at 0 (codes "events") (codes "server") (λ h. let bad : 101 ≡ 115 = h in absurd (omega arith)) e,
  λ e. other_at 0 (codes "check") (codes "server") (λ h. let bad : 99 ≡ 115 = h in absurd (omega arith)) e,
  λ e. other_at 0 (codes "fmt") (codes "server") (λ h. let bad : 102 ≡ 115 = h in absurd (omega arith)) e,
)

command_once : (rules : List Text) (name : Text) (given : List Row) (a b : Command)
    → IsCommand rules name given a → IsCommand rules name given b → SameCommand a b
command_once rules name given (command.Events a) (command.Events b) p q = cc
command_once rules name given (command.Check a) (command.Check b) p q = check_once rules given a b p.1 q.1
command_once rules name given (command.Fmt a) (command.Fmt b) p q =
    (fmt_once given a b p.1.task q.1.task, output_once given a b p.1.format q.1.format)
command_once rules name given (command.Events a) (command.Check b) p q = absurd (other_names.0 (sym p.0 ∙ q.0))
command_once rules name given (command.Events a) (command.Fmt b) p q = absurd (other_names.1 (sym p.0 ∙ q.0))
command_once rules name given (command.Check a) (command.Events b) p q = absurd (other_names.0 (sym q.0 ∙ p.0))
command_once rules name given (command.Check a) (command.Fmt b) p q = absurd (other_names.2 (sym p.0 ∙ q.0))
command_once rules name given (command.Fmt a) (command.Events b) p q = absurd (other_names.1 (sym q.0 ∙ p.0))
command_once rules name given (command.Fmt a) (command.Check b) p q = absurd (other_names.2 (sym q.0 ∙ p.0))
command_once rules name given command.Server command.Server p q = tt
command_once rules name given (command.Events a) command.Server p q = absurd (other_names.3 (sym p.0 ∙ q))
command_once rules name given (command.Check a) command.Server p q = absurd (other_names.4 (sym p.0 ∙ q))
command_once rules name given (command.Fmt a) command.Server p q = absurd (other_names.5 (sym p.0 ∙ q))
command_once rules name given command.Server (command.Events b) p q = absurd (other_names.3 (sym q.0 ∙ p))
command_once rules name given command.Server (command.Check b) p q = absurd (other_names.4 (sym q.0 ∙ p))
command_once rules name given command.Server (command.Fmt b) p q = absurd (other_names.5 (sym q.0 ∙ p))

-- ---- not both

command_not_both : (rules : List Text) (pages : List Page) (name : Text) (given : List Row) (a : Command)
    → IsCommand rules name given a → IsNoCommand rules pages name given → ⊥
command_not_both rules pages name given (command.Events a) p (other_name e c f s x) = e p.0
command_not_both rules pages name given (command.Events a) p (no_check n r) = other_names.0 (sym p.0 ∙ n)
command_not_both rules pages name given (command.Events a) p (no_fmt n r) = other_names.1 (sym p.0 ∙ n)
command_not_both rules pages name given (command.Check a) p (other_name e c f s x) = c p.0
command_not_both rules pages name given (command.Check a) p (no_check n r) = check_not_both rules given a p.1 r
command_not_both rules pages name given (command.Check a) p (no_fmt n r) = other_names.2 (sym p.0 ∙ n)
command_not_both rules pages name given (command.Fmt a) p (other_name e c f s x) = f p.0
command_not_both rules pages name given (command.Fmt a) p (no_check n r) = other_names.2 (sym n ∙ p.0)
command_not_both rules pages name given (command.Fmt a) p (no_fmt n (inl r)) = fmt_not_both given a p.1.task r
command_not_both rules pages name given (command.Fmt a) p (no_fmt n (inr r)) =
    format_not_both given a p.1.task p.1.format r
command_not_both rules pages name given command.Server p (other_name e c f s x) = s p
command_not_both rules pages name given command.Server p (no_check n r) = other_names.4 (sym n ∙ p)
command_not_both rules pages name given command.Server p (no_fmt n r) = other_names.5 (sym n ∙ p)
command_not_both rules pages name given a p (no_page n none) = not_explained rules name given a p n

settings_once : (given : List Row) (a b : Settings) → IsSettings given a → IsSettings given b → a ≡ b
settings_once given asked.Nearest asked.Nearest p q = refl
settings_once given asked.Nearest (asked.File n) p q = cc
settings_once given asked.Nearest asked.Defaults p q = cc
settings_once given (asked.File m) asked.Nearest p q = cc
settings_once given (asked.File m) (asked.File n) p q = ap (λ t. asked.File t) (same_Some _ _ (sym p.1 ∙ q.1))
settings_once given (asked.File m) asked.Defaults p q = cc
settings_once given asked.Defaults asked.Nearest p q = cc
settings_once given asked.Defaults (asked.File n) p q = cc
settings_once given asked.Defaults asked.Defaults p q = refl

settings_not_both : (given : List Row) (a : Settings) → IsSettings given a → AsksTwice given → ⊥
settings_not_both given asked.Nearest p q = q.1 p.1
settings_not_both given (asked.File n) p q = cc
settings_not_both given asked.Defaults p q = q.1 p.1

-- The two are equal, except for the capacity of their vectors.
pub record SameRequest (a b : Request) : Type 0 where
  pub settings : a.settings ≡ b.settings
  pub shows : a.shows_settings ≡ b.shows_settings
  pub explain : a.explain ≡ b.explain
  pub any_text : a.any_text ≡ b.any_text
  pub names : a.names ≡ b.names
  pub stdin_name : a.stdin_name ≡ b.stdin_name
  pub command : SameCommand a.command b.command

met_once : (rules : List Text) (before : List Row) (met : Met) (a b : Request) → IsRequest rules before met a
    → IsRequest rules before met b → SameRequest a b
met_once rules before met a b p q =
    let same : (p.name, p.given) ≡ (q.name, q.given) = same_Some _ _ (sym p.named ∙ q.named) in
    let given : p.given ≡ q.given = ap (λ m. m.1) same in
    let explained : List Row → Bool = λ rows. is_flag (codes "explain") before || is_flag (codes "explain") rows in
    record {
      settings = settings_once q.given a.settings b.settings
          (subst (λ (rows : List Row). IsSettings rows a.settings) given p.settings) q.settings;
      shows = p.shows ∙ (ap (is_flag (codes "show-settings")) given ∙ sym q.shows);
      explain = p.explain ∙ (ap explained given ∙ sym q.explain);
      any_text = p.any_text ∙ (ap (λ rows. is_flag (codes "any-text") rows) given ∙ sym q.any_text);
      names = p.names ∙ (ap (λ rows. is_flag (codes "names") rows) given ∙ sym q.names);
      stdin_name = p.stdin_name ∙ (ap (λ rows. stdin_name_given rows) given ∙ sym q.stdin_name);
      command = command_once rules q.name q.given a.command b.command
          (subst (λ (m : Text × List Row). IsCommand rules m.0 m.1 a.command) same p.command) q.command;
    }

-- A line of words asks for at most one request.
pub asks_once : (rules words : List Text) (a b : Request) → AsksFor rules words a → AsksFor rules words b
    → SameRequest a b
asks_once rules words a b p q = met_once rules _ _ a b p.1 q.1

met_not_both : (rules : List Text) (pages : List Page) (before : List Row) (met : Met) (a : Request)
    → IsRequest rules before met a → IsNoRequest rules pages met → ⊥
met_not_both rules pages before met a p refusal =
    elim (subst (λ (m : Met). IsNoRequest rules pages m) p.named refusal) [
      | inl command ↦ command_not_both rules pages p.name p.given a.command p.command command
      | inr twice ↦ settings_not_both p.given a.settings p.settings twice.1
    ]

-- Words that ask for what `explain` prints ask for no request.
met_not_explained : (rules : List Text) (pages : List Page) (before : List Row) (met : Met) (a : Request) (text : Text)
    → IsRequest rules before met a → AsksPage pages met text → ⊥
met_not_explained rules pages before met a text p page =
    let explains : Explains pages p.name p.given text = subst (λ (m : Met). AsksPage pages m text) p.named page in
    not_explained rules p.name p.given a.command p.command explains.0

command_not_explained : (rules : List Text) (pages : List Page) (name : Text) (given : List Row) (text : Text)
    → Explains pages name given text → IsNoCommand rules pages name given → ⊥
command_not_explained rules pages name given text page (other_name e c f s x) = x page.0
command_not_explained rules pages name given text page (no_check n r) = other_explain.1 (sym n ∙ page.0)
command_not_explained rules pages name given text page (no_fmt n r) = other_explain.2 (sym n ∙ page.0)
command_not_explained rules pages name given text page (no_page n none) = cc

-- Words for which `explain` prints a text are not refused.
pub page_not_refused : (rules : List Text) (pages : List Page) (met : Met) (text : Text)
    → AsksPage pages met text → IsNoRequest rules pages met → ⊥
page_not_refused rules pages None text page refusal = page
page_not_refused rules pages (Some m) text page (inl none) = command_not_explained rules pages m.0 m.1 text page none
page_not_refused rules pages (Some m) text page (inr twice) = twice.0 page.0

-- What `explain` prints is one text.
pub page_once : (pages : List Page) (met : Met) (a b : Text) → AsksPage pages met a → AsksPage pages met b → a ≡ b
page_once pages None a b p q = absurd p
page_once pages (Some m) a b p q = same_Some _ _ (sym p.1 ∙ q.1)

none_among : (kind : ErrorKind) (kinds : List ErrorKind) → kinds ≡ [] → IsAmong kind kinds → ⊥
none_among kind [] none among = among
none_among kind (k ∷ ks) none among = cc

-- No line of words both asks for a request and is refused, unless memory runs out.
pub not_refused : (rules : List Text) (pages : List Page) (words : List Text) (a : Request) (text : List ℕ)
    → AsksFor rules words a → RefusesWords rules pages words (Wrong text) ⊎ RefusesWords rules pages words (Help text)
    → ⊥
not_refused rules pages words a text p (inl (inl w)) = none_among w.0 _ p.0 w.2
not_refused rules pages words a text p (inl (inr w)) = met_not_both rules pages _ _ a p.1 w.1
not_refused rules pages words a text p (inr (inl w)) = none_among w.0 _ p.0 w.2
not_refused rules pages words a text p (inr (inr w)) = met_not_explained rules pages _ _ a text p.1 w.1

-- ---- at least one of these. The proof assumes only that vectors with given items exist.

-- A text is a word or differs from it.
same_by : (text word : Text) (same : Bool) → bytes_eq text word ≡ same → (text ≡ word) ⊎ (text ≢ word)
same_by text word true eq = inl ((bytes_eq-Decides text word).0 eq)
same_by text word false eq = inr (λ e. absurd (false≢true (sym eq ∙ (bytes_eq-Decides text word).1 e)))

same_or_other : (text word : Text) → (text ≡ word) ⊎ (text ≢ word)
same_or_other text word = same_by text word _ refl

module _ (inputs : List Input → Vec Input Global) (inputs_are : (l : List Input) → (inputs l).items ≡ l)
    (texts : List Text → Vec Text Global) (texts_are : (l : List Text) → (texts l).items ≡ l)
    (ranges : List LineRange → Vec LineRange Global) (ranges_are : (l : List LineRange) → (ranges l).items ≡ l) where
  -- A command, or what `explain` prints, or why there is neither.
  abbrev Way : List Text → List Page → Text → List Row → Type 0
  Way rules pages name given =
      ((a : Command) × IsCommand rules name given a)
      ⊎ (((text : Text) × Explains pages name given text) ⊎ IsNoCommand rules pages name given)

  check_way : (rules : List Text) (pages : List Page) (name : Text) (given : List Row) → name ≡ codes "check"
      → Way rules pages name given
  check_way rules pages name given named =
      elim (check_or_not inputs inputs_are texts texts_are ranges ranges_are rules given) [
        | inl a ↦ inl (command.Check a.0, (named, a.1))
        | inr no_way ↦ inr (inr (no_check named no_way))
      ]

  fmt_way : (rules : List Text) (pages : List Page) (name : Text) (given : List Row) → name ≡ codes "fmt"
      → Way rules pages name given
  fmt_way rules pages name given named =
      elim (fmt_or_not inputs inputs_are texts texts_are ranges ranges_are given) [
        | inl a ↦ elim (format_or_not given a.0 a.1) [
          | inl b ↦ inl (command.Fmt b.0, (named, b.1))
          | inr no_way ↦ inr (inr (no_fmt named (inr no_way)))
        ]
        | inr no_way ↦ inr (inr (no_fmt named (inl no_way)))
      ]

  explain_way : (rules : List Text) (pages : List Page) (name : Text) (given : List Row) (page : Option Text)
      → name ≡ codes "explain" → explained_given pages given ≡ page → Way rules pages name given
  explain_way rules pages name given (Some text) named is = inr (inl (text, (named, is)))
  explain_way rules pages name given None named none = inr (inr (no_page named none))

  way : (rules : List Text) (pages : List Page) (name : Text) (given : List Row) → Way rules pages name given
  way rules pages name given =
      elim (same_or_other name (codes "events")) [
        | inl is ↦ inl (command.Events (first_input (files_given given)), (is, refl))
        | inr e ↦ elim (same_or_other name (codes "check")) [
          | inl is ↦ check_way rules pages name given is
          | inr c ↦ elim (same_or_other name (codes "fmt")) [
            | inl is ↦ fmt_way rules pages name given is
            | inr f ↦ elim (same_or_other name (codes "server")) [
              | inl is ↦ inl (command.Server, is)
              | inr s ↦ elim (same_or_other name (codes "explain")) [
                | inl is ↦ explain_way rules pages name given _ is refl
                | inr x ↦ inr (inr (other_name e c f s x))
              ]
            ]
          ]
        ]
      ]

  settings_by : (given : List Row) (d : Bool) (c : Option Text) → takes_defaults given ≡ d → config_given given ≡ c
      → ((a : Settings) × IsSettings given a) ⊎ AsksTwice given
  settings_by given false None ed ec = inl (asked.Nearest, (ed, ec))
  settings_by given false (Some n) ed ec = inl (asked.File n, (ed, ec))
  settings_by given true None ed ec = inl (asked.Defaults, (ed, ec))
  settings_by given true (Some n) ed ec = inr (ed, λ none. cc)

  settings_or_not : (given : List Row) → ((a : Settings) × IsSettings given a) ⊎ AsksTwice given
  settings_or_not given = settings_by given _ _ refl refl

  -- A request, or what `explain` prints, or why there is neither.
  abbrev Outcome : List Text → List Page → List Row → Met → Type 0
  Outcome rules pages before met =
      ((a : Request) × IsRequest rules before met a)
      ⊎ (((text : Text) × AsksPage pages met text) ⊎ IsNoRequest rules pages met)

  outcome : (rules : List Text) (pages : List Page) (before : List Row) (met : Met) → Outcome rules pages before met
  outcome rules pages before None = inr (inr tt)
  outcome rules pages before (Some m) =
      elim (way rules pages m.0 m.1) [
        | inl a ↦ elim (settings_or_not m.1) [
          | inl s ↦ inl (
            record {
              settings = s.0;
              shows_settings = is_flag (codes "show-settings") m.1;
              explain = is_flag (codes "explain") before || is_flag (codes "explain") m.1;
              any_text = is_flag (codes "any-text") m.1;
              names = is_flag (codes "names") m.1;
              stdin_name = stdin_name_given m.1;
              command = a.0;
            },
            record {
              name = m.0;
              given = m.1;
              named = refl;
              command = a.1;
              settings = s.1;
              shows = refl;
              explain = refl;
              any_text = refl;
              names = refl;
              stdin_name = refl;
            },
          )
          | inr twice ↦ inr (inr (inr (not_explained rules m.0 m.1 a.0 a.1, twice)))
        ]
        | inr (inl page) ↦ inr (inl page)
        | inr (inr no_way) ↦ inr (inr (inl no_way))
      ]

  asks_text : (kind : ErrorKind) → AsksText kind ⊎ (¬ AsksText kind)
  asks_text DisplayHelp = inl (inl refl)
  asks_text DisplayVersion = inl (inr refl)
  asks_text _ = inr (λ a. elim a [ inl e ↦ cc | inr e ↦ cc ])

  -- (text: any text of a refusal or of help)
  abbrev AsksOrIsRefused : List Text → List Page → List Text → List ℕ → Type 0
  AsksOrIsRefused rules pages words text =
      ((a : Request) × AsksFor rules words a)
      ⊎ (RefusesWords rules pages words (Wrong text)
      ⊎ ((printed : List ℕ) × RefusesWords rules pages words (Help printed)))

  kinds_by : (rules : List Text) (pages : List Page) (words : List Text) (text : List ℕ) (kinds : List ErrorKind)
      → fault_of yamlfmt words ≡ kinds → AsksOrIsRefused rules pages words text
  kinds_by rules pages words text [] e =
      elim (outcome rules pages (matches_of yamlfmt words) (subcommand_of yamlfmt words)) [
        | inl a ↦ inl (a.0, (e, a.1))
        | inr (inl page) ↦ inr (inr (page.0, inr (e, page.1)))
        | inr (inr no_way) ↦ inr (inl (inr (e, no_way)))
      ]
  kinds_by rules pages words text (kind ∷ kinds) e =
      let among : IsAmong kind (fault_of yamlfmt words) =
      subst (λ (l : List ErrorKind). IsAmong kind l) (sym e) (inl refl) in
      elim (asks_text kind) [
        | inl a ↦ inr (inr (text, inl (kind, a, among)))
        | inr n ↦ inr (inl (inl (kind, n, among)))
      ]

  -- A line of words asks for a request, is refused, or asks for a text.
  pub asks_or_is_refused : (rules : List Text) (pages : List Page) (words : List Text) (text : List ℕ)
      → AsksOrIsRefused rules pages words text
  asks_or_is_refused rules pages words text = kinds_by rules pages words text _ refl
