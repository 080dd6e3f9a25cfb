-- What formatting leaves unchanged.
use Rattle.std.proofs.Common.{List, ℕ}
use Rattle.std.specs.Str.{IsUtf8}
use Rattle.yf_forms.specs.declared.style.Style.{Style}
use Rattle.yf_laws.specs.Format.{IsFormatting}
use Rattle.yf_laws.specs.Keeps.{Keeps}
use Rattle.yf_laws.proofs.Keeps.BlanksKept.{blanks_kept}
use Rattle.yf_laws.proofs.Keeps.CommentsStay.{comments_stay}
use Rattle.yf_laws.proofs.Keeps.EmptyTexts.{empty_alike}
use Rattle.yf_laws.proofs.Keeps.KeyDecides.{key_decides}
use Rattle.yf_laws.proofs.Keeps.LinesTidy.{lines_tidy}
use Rattle.yf_laws.proofs.Keeps.ReadingsDecide.{readings_decide}
use Rattle.yf_laws.proofs.Keeps.SpellingsKept.{spellings_kept, types_kept}
use Rattle.yf_laws.proofs.Size.SizesKept.{sizes_kept}

pub keeps_hold : (t u : List ℕ) (s : Style) → IsUtf8 t → IsFormatting t s u → Keeps t s u
keeps_hold t u s utf8 f = record {
  types = types_kept t u s utf8 f;
  spellings = spellings_kept t u s utf8 f;
  lines = lines_tidy t u s utf8 f;
  empty = empty_alike t u s utf8 f;
  blanks = blanks_kept t u s utf8 f;
  key = key_decides t u s;
  reading = readings_decide t u s;
  comments = comments_stay t u s utf8;
  size = sizes_kept t u s utf8 f;
}
