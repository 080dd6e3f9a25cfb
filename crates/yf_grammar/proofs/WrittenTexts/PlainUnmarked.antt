-- A plain scalar that stays plain begins no document marker.
use Rattle.std.proofs.Common.{◌≡◌, ℕ, pos, false, List, [], ◌∷◌, arith}
use Rattle.yf_chars.specs.declared.context.Ctx.{Ctx}
use Rattle.yf_lines.specs.Basic.{is_block}
use Rattle.yf_lines.proofs.ClearLemmas.{not_forbidden}
use Rattle.yf_lines.proofs.RestLemmas.{rest_is_at, follows_not}
use Rattle.yf_plain.specs.Kept.{IsPlain}
use Rattle.yf_plain.proofs.PlainBack.{plain_back}
use Rattle.yf_grammar.specs.Productions.Unmarked.{IsNoMarker}

pub unmarked_nothing : IsNoMarker []
unmarked_nothing = record { none = λ {t} q r u f s n. let no = follows_not u (rest_is_at s) f in not_forbidden t q no.0 no.1 n }

pub plain_unmarked : {x : Ctx} {w : List ℕ} → is_block x ≡ false → IsPlain x w → IsNoMarker w
plain_unmarked {x} {w = []} b p = unmarked_nothing
plain_unmarked {x} {w = c ∷ w} b p = record { none = λ {t} q r u f s n. (plain_back (pos 0) u b f p (rest_is_at s)).clear.none q (omega arith) (omega arith) n }
