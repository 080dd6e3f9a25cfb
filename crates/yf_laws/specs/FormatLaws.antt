-- The laws of formatted texts, each with a plain sentence. `proofs/SameReading/FormatLawsHold.antt`,
-- `proofs/Trails/FormatTrails.antt`, `proofs/Derived/FormatsRead.antt`, `proofs/SameReading/SameContent.antt` and
-- `proofs/SameReading/SameComments.antt` prove them.
use Rattle.std.specs.Prelude.{◌≡◌, ℕ, List}
use Rattle.std.specs.Str.{IsUtf8}
use Rattle.yf_events.specs.declared.lists.Lists.{Lists}
use Rattle.yf_stream.specs.ReadingOf.{ReadingOf}
use Rattle.yf_stream.specs.Stream.{Documents}
use Rattle.yf_stream.specs.WellFormed.{ReadsWithoutBreach}
use Rattle.yf_forms.specs.declared.style.Style.{Style}
use Rattle.yf_forms.specs.NormalForms.BareStart.{is_bare}
use Rattle.yf_laws.specs.Layouts.RowComments.{TrailsFit}
use Rattle.yf_laws.specs.Layouts.Decorated.{rows_of}
use Rattle.yf_laws.specs.Layouts.FitDocuments.{DocumentsMeant}
use Rattle.yf_laws.specs.Format.{IsFormatting}
use Rattle.yf_laws.specs.Laws.{HasSameComments, HasSameContent, IsAccepted}
use Rattle.yf_laws.specs.Layouts.Layout.{source_of}

-- A text that has a reading has a formatting.
abbrev pub FormatsExist : Type 0
FormatsExist = (t : List ℕ) (s : Style) (r : Lists) → ReadingOf t r → (u : List ℕ) × IsFormatting t s u

-- A text has at most one formatting.
abbrev pub FormatsAreOne : Type 0
FormatsAreOne = (t u v : List ℕ) (s : Style) → IsFormatting t s u → IsFormatting t s v → u ≡ v

-- at most one comment trails each row of the layout
abbrev pub TrailsFitIn : {t : List ℕ} {s : Style} {u : List ℕ} → IsFormatting t s u → Type 0
TrailsFitIn {s = s} f = TrailsFit (source_of f.normal (rows_of f.normal s f.writes.trees)) (rows_of f.normal s f.writes.trees)

-- At most one comment trails each row of a formatted text.
abbrev pub FormatsTrailOnce : Type 0
FormatsTrailOnce = (t u : List ℕ) (s : Style) → IsUtf8 t → (f : IsFormatting t s u) → TrailsFitIn f

-- u is a text that has one meaning within the limit of open collections and breaks no rule of streams. Its documents
-- mean the trees of the normal form, with their directives; each begins with a `---`, except for a first one that is
-- bare.
pub record WellFormed {t : List ℕ} {s : Style} {u : List ℕ} (f : IsFormatting t s u) : Type 0 where
  pub utf8 : IsUtf8 u
  pub documents : Documents
  pub reads : ReadsWithoutBreach u documents
  pub meant : DocumentsMeant (is_bare f.normal s) f.normal.documents f.writes.trees documents.documents

-- A formatted text is a well-formed stream.
abbrev pub FormatsAreWellFormed : Type 0
FormatsAreWellFormed = (t u : List ℕ) (s : Style) → IsUtf8 t → (f : IsFormatting t s u) → WellFormed f

-- It is accepted: it has a reading.
abbrev pub FormatsAreAccepted : Type 0
FormatsAreAccepted = (t u : List ℕ) (s : Style) → IsUtf8 t → IsFormatting t s u → IsAccepted u

-- It has the same content as the text.
abbrev pub FormatsKeepContent : Type 0
FormatsKeepContent = (t u : List ℕ) (s : Style) → IsUtf8 t → IsFormatting t s u → HasSameContent t u

-- It has the same comments at the same places: as many, in order, each with the same text except for the white space
-- that ended it, after as many documents and leaves.
abbrev pub FormatsKeepComments : Type 0
FormatsKeepComments = (t u : List ℕ) (s : Style) → IsUtf8 t → IsFormatting t s u → HasSameComments t u
