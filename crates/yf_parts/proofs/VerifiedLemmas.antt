-- Why a text hasn't a given formatting.
use Rattle.std.proofs.Common.{◌≢◌, ℕ, List, sym}
use Rattle.yf_forms.specs.declared.style.Style.{Style}
use Rattle.yf_laws.specs.Formattings.{RefusedTextsHaveNoReading}
use Rattle.yf_lines.specs.declared.fault.Fault.{Fault}
use Rattle.yf_lines.specs.declared.fault.Fault.TheVariants.{Memory}
use Rattle.yf_rules.specs.Headline.{Headline}
use Rattle.yf_stream.specs.StreamReader.{StreamFault}
use Rattle.yf_parts.specs.Tries.{IsOther}

-- it has another formatting
pub other_formatting : {v u w : List ℕ} {s : Style} → Headline v s w → w ≢ u → IsOther s u v
other_formatting {u = u} h differs = λ _ f. differs (sym (h.kept.only u f))

-- it is refused, and not for lack of memory
pub refused_other : RefusedTextsHaveNoReading → {v u : List ℕ} {s : Style} (fault : Fault) → StreamFault v fault
    → fault ≢ Memory → IsOther s u v
refused_other law {v} fault told other = λ _ f. law v fault told other f.reading f.reads
