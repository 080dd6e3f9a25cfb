-- A formatted text is the only formatting of its source. It is accepted, has the same content and the same comments at
-- the same places, is in normal form, and a second run changes nothing.
use Rattle.std.proofs.Common.{List, ℕ}
use Rattle.std.specs.Str.{IsUtf8}
use Rattle.yf_forms.specs.declared.style.Style.{Style}
use Rattle.yf_laws.specs.Format.{IsFormatting}
use Rattle.yf_laws.specs.FormatPromises.{FormatKept}
use Rattle.yf_laws.proofs.SecondRun.FixedLawsHold.{formats_normal}
use Rattle.yf_laws.proofs.SecondRun.FormatsFixed.{formats_fixed}
use Rattle.yf_laws.proofs.SameReading.FormatLawsHold.{formats_accepted, formats_are_one}
use Rattle.yf_laws.proofs.Keeps.KeepsHold.{keeps_hold}
use Rattle.yf_laws.proofs.SameReading.SameComments.{formats_comments}
use Rattle.yf_laws.proofs.SameReading.SameContent.{formats_content}

pub format_keeps : (t : List ℕ) (s : Style) (u : List ℕ) → IsUtf8 t → IsFormatting t s u → FormatKept t s u
format_keeps t s u utf8 f = record {
  formats = f;
  only = λ v g. formats_are_one t v u s g f;
  accepted = formats_accepted t u s utf8 f;
  content = formats_content t u s utf8 f;
  comments = formats_comments t u s utf8 f;
  normal = formats_normal t u s utf8 f;
  unchanged = formats_fixed t u s utf8 f;
  keeps = keeps_hold t u s utf8 f;
}
