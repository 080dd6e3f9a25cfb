-- What `fmt --write` does to the file at one name: a relation of two states of the file system.
-- (Text: what the new text is, for the bytes that the file holds, and why the bytes have none)
use Rattle.std.specs.Prelude.{◌≡◌, ◌≢◌, ◌⊎◌, ℕ, Bool, List, Some, None, Result, Err, MatchResult, codes}
use Rattle.std.specs.Str.{IsUtf8, IsValidUpTo}
use Rattle.yf_files.specs.Replaced.{AtAnyMoment}
use Rattle.yf_files.specs.Rewritten.{IsFormatting, IsUntouched, LeavesRefused, Rewrote, WhyRefused, new_name_of}
use Rattle.yf_files.specs.Tree.{FilesState, at, regular}
use Rattle.yf_files.specs.declared.rewriting.RewriteError.{RewriteError}
use Rattle.yf_files.specs.declared.rewriting.RewriteError.TheVariants as error
use Rattle.yf_forms.specs.declared.style.Style.{Style}
use Rattle.yf_lines.specs.declared.fault.Fault.{Fault}
use Rattle.yf_lines.specs.declared.fault.Fault.TheVariants as fault
use Rattle.yf_parts.specs.PartRun.{IsPart}
use Rattle.yf_rules.specs.Headline.{Headline}
use Rattle.yf_stream.specs.Refusal.{IsStreamFault}
use Rattle.yf_stream.specs.StreamReader.{StreamFault}
use Rattle.yf_host.specs.LeftAlone.{LeavesBytes, left_line, left_status}
use Rattle.yf_host.specs.World.{TextClaim}
use Rattle.yf_host.specs.declared.guarded_text.GuardedText.{GuardedText}
use Rattle.yf_host.specs.declared.guarded_text.NoNewText.{NoNewText}
use Rattle.yf_host.specs.declared.guarded_text.NoNewText.TheVariants as no_text
use Rattle.yf_host.specs.declared.files.NewText.{NewText}
use Rattle.yf_host.specs.declared.files.NewText.TheVariants.{Formatted, Part}
use Rattle.yf_files.specs.declared.replacing.ReplaceError.{ReplaceError}
use Rattle.yf_files.specs.declared.replacing.ReplaceError.TheVariants.{Left, Unsure, Untouched}
use Rattle.yf_host.specs.Report.{fault_line, fault_status}

-- The text is the formatting of the bytes, and the two have all properties in `Headline`.
abbrev pub FormatsBytes : Style → List ℕ → List ℕ → Type 0
FormatsBytes style bytes text = Headline bytes style text

-- What the new text is: the formatting, or the text with some lines formatted.
abbrev pub IsNewText : NewText → List ℕ → List ℕ → Type 0
IsNewText (Formatted style) = FormatsBytes style.now
IsNewText (Part style lines) = IsPart style.now lines.now

-- The bytes have no formatting: they are not UTF-8, or the text is not a stream, or it breaks the rule that the fault
-- names.
abbrev pub RefusesBytes : List ℕ → Fault → Type 0
RefusesBytes bytes (fault.NotUtf8 offset) = (¬ IsUtf8 bytes) × IsValidUpTo bytes offset
RefusesBytes bytes why = IsUtf8 bytes × IsStreamFault bytes why × StreamFault bytes why

-- Why bytes have no new text: they are refused, or they are a text that the program skips.
abbrev pub HasNoNewText : Bool → List ℕ → NoNewText → Type 0
HasNoNewText any_text bytes (no_text.Refused f) = RefusesBytes bytes f
HasNoNewText any_text bytes (no_text.LeftAlone g) = LeavesBytes any_text bytes (Some g)

-- The new text of bytes that the program does not skip.
abbrev pub new_text_of : Bool → (List ℕ → List ℕ → Type 0) → TextClaim
new_text_of any_text Formats = record {
  Formats = λ bytes text. LeavesBytes any_text bytes None × Formats bytes text;
  Refuses = HasNoNewText any_text;
}

abbrev pub claim_of : GuardedText → TextClaim
claim_of guarded = new_text_of guarded.any_text (IsNewText guarded.new_text)

-- At any moment, even if the run or the machine stops, the file holds its old text or exactly the new text, never a part
-- of it. No name except the new one ever has anything else. If the result is `Ok`, then either the file has the new
-- text, even after a crash, or it had the new text before, and nothing was touched. If the result is an error, the file
-- is as it was, or the error says what remains. A file that the program skips stays as it was. If the formatter refuses,
-- then it refused some bytes, even if nothing is known of the files.
-- (tells: the contents of the files are known; old, new: the states of the file system)
abbrev pub RewritesFile : Type 0 → FilesState → FilesState → List ℕ → TextClaim → Result Unit (RewriteError NoNewText)
    → Type 0
RewritesFile tells old new file Text result =
    (tells → AtAnyMoment old new (new_name_of file) (IsFormatting Text.Formats old file))
    × MatchResult result (λ _. tells → Rewrote Text.Formats old new file)
    (λ why. WhyRefused Text.Refuses why × (tells → LeavesRefused Text.Formats Text.Refuses old new file why))

-- The name leads to no regular file. (Leads: the names of the files to which it leads)
abbrev pub LeadsNowhere : FilesState → (List ℕ → Type 0) → Type 0
LeadsNowhere files Leads = (file bytes : List ℕ) → Leads file → at files file ≢ Some (regular bytes)

-- No file to rewrite was found: memory was refused, or the name leads to no file.
abbrev pub IsUnfound : Type 0 → RewriteError NoNewText → Type 0
IsUnfound Nowhere error.Memory = Unit {0}
IsUnfound Nowhere error.Unreadable = Nowhere
IsUnfound Nowhere (error.Refused why) = ⊥
IsUnfound Nowhere (error.Unwritten how) = ⊥

-- The file at the name is rewritten, or the file to which a link at the name leads. Or no file is found, and nothing is
-- touched. (Leads: the names of the files to which the name leads)
abbrev pub FileRewrite : Type 0 → FilesState → FilesState → (List ℕ → Type 0) → TextClaim
    → Result Unit (RewriteError NoNewText) → Type 0
FileRewrite tells old new Leads Text result =
    ((file : List ℕ) × Leads file × RewritesFile tells old new file Text result)
    ⊎ ((why : RewriteError NoNewText) × (result ≡ Err why) × IsUnfound (tells → LeadsNowhere old Leads) why
    × (tells → IsUntouched old new))

-- ---- A file that is not rewritten

-- The line of a file that is not written, or not for sure: it says what is left.
abbrev pub unwritten_line : ReplaceError → List ℕ
unwritten_line Untouched = fault_line fault.WriteFailed
unwritten_line Left = codes "write failed: the .yamlfmt-new file is left\n"
unwritten_line Unsure = codes "write failed: the new text may not survive a crash\n"

-- The line and the status of bytes without a new text.
abbrev pub no_text_line : NoNewText → List ℕ
no_text_line (no_text.Refused f) = fault_line f
no_text_line (no_text.LeftAlone g) = left_line g

abbrev pub no_text_status : NoNewText → ℕ
no_text_status (no_text.Refused f) = fault_status f
no_text_status (no_text.LeftAlone g) = left_status g

-- The line and the status of a file that is not rewritten.
abbrev pub rewrite_line : RewriteError NoNewText → List ℕ
rewrite_line error.Memory = fault_line fault.Memory
rewrite_line error.Unreadable = fault_line fault.ReadFailed
rewrite_line (error.Refused none) = no_text_line none
rewrite_line (error.Unwritten how) = unwritten_line how

abbrev pub rewrite_status : RewriteError NoNewText → ℕ
rewrite_status error.Memory = fault_status fault.Memory
rewrite_status error.Unreadable = fault_status fault.ReadFailed
rewrite_status (error.Refused none) = no_text_status none
rewrite_status (error.Unwritten _) = fault_status fault.WriteFailed
