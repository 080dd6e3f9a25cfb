-- How a text with some or all lines formatted is shown.
-- (t: the text that was read; v: the text with the lines formatted; before, after: the writer; same: the result)
use Rattle.std.specs.Prelude.{◌≡◌, ◌≢◌, ℕ, List, [], Bool, true, Option, MatchOption}
use Rattle.std.specs.Option.{is_none}
use Rattle.yf_diff.specs.Diff.{AddsDiff}
use Rattle.yf_lines.specs.declared.fault.Fault.{Fault}
use Rattle.yf_lines.specs.declared.fault.Fault.TheVariants.{Memory, WriteFailed}
use Rattle.yf_lines.specs.declared.place.Position.{Position}
use Rattle.yf_rules.specs.Quoted.{quoted}
use Rattle.yf_rules.specs.Runs.ByteStream.{ByteStream, BreaksOff, NothingWritten, Writes}
use Rattle.yf_rules.specs.Runs.Compare.{DiffersFirst, difference_line, difference_text}
use Rattle.yf_rules.specs.Runs.Diffed.{is_same}
use Rattle.yf_parts.specs.declared.show.Show.{Show}
use Rattle.yf_parts.specs.declared.show.Show.TheVariants.{Text, Place, Diff}

-- The text was written.
abbrev pub TextShown : List ℕ → ByteStream → ByteStream → Bool → Type 0
TextShown v before after same = Writes before after v × (same ≡ true)

-- The position at which t first differs from v was written, or nothing if they are equal.
pub record PlaceShown (t v : List ℕ) (before after : ByteStream) (same : Bool) : Type 0 where
  pub place : Option Position
  pub first : MatchOption place (t ≡ v) (DiffersFirst t v)
  pub wrote : Writes before after (difference_text place)
  pub answer : same ≡ is_none place

-- The diff of two texts, both under the name. It is empty if and only if they are equal.
pub record DiffFound (name t v diff : List ℕ) : Type 0 where
  pub written : AddsDiff name name t v [] diff
  pub told : diff ≡ [] → t ≡ v
  pub none : t ≡ v → diff ≡ []

-- The diff of t and v was written.
pub record DiffShown (name t v : List ℕ) (before after : ByteStream) (same : Bool) : Type 0 where
  pub diff : List ℕ
  pub found : DiffFound name t v diff
  pub wrote : Writes before after diff
  pub answer : same ≡ is_same diff

-- Exactly this was written. A diff has the name as Git writes it.
abbrev pub IsShown : Show → List ℕ → List ℕ → List ℕ → ByteStream → ByteStream → Bool → Type 0
IsShown Text name t v before after same = TextShown v before after same
IsShown Place name t v before after same = PlaceShown t v before after same
IsShown Diff name t v before after same = DiffShown (quoted name) t v before after same

-- The writer failed, and a prefix was written: of the text,
abbrev pub TextBroke : List ℕ → ByteStream → ByteStream → Type 0
TextBroke v before after = BreaksOff before after v

-- of the line with the position,
pub record PlaceBroke (t v : List ℕ) (before after : ByteStream) : Type 0 where
  pub place : Position
  pub first : DiffersFirst t v place
  pub broke : BreaksOff before after (difference_line place)

-- or of the diff.
pub record DiffBroke (name t v : List ℕ) (before after : ByteStream) : Type 0 where
  pub diff : List ℕ
  pub found : DiffFound name t v diff
  pub differs : diff ≢ []
  pub broke : BreaksOff before after diff

abbrev pub ShowBroke : Show → List ℕ → List ℕ → List ℕ → ByteStream → ByteStream → Type 0
ShowBroke Text name t v before after = TextBroke v before after
ShowBroke Place name t v before after = PlaceBroke t v before after
ShowBroke Diff name t v before after = DiffBroke (quoted name) t v before after

-- Why nothing is shown, or only a prefix: the writer failed, or memory was refused and nothing was written.
abbrev pub NotShown : Type 0 → ByteStream → ByteStream → Fault → Type 0
NotShown Broke before after WriteFailed = Broke
NotShown Broke before after Memory = NothingWritten before after
NotShown Broke before after _ = ⊥
