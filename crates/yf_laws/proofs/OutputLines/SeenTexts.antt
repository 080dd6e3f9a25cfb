-- Texts that begin with a visible character other than #, so that they are not comments or blank lines.
use Rattle.std.proofs.Common.{◌≡◌, ◌≢◌, ℕ, pos, ◌<◌, ◌≤◌, Bool, true, false, List, [], ◌∷◌, ◌++◌, encode_utf8, drop, refl, sym, ap, ◌∙◌, subst, arith, append_assoc, append-nil, Option, Some, None}
use Rattle.std.proofs.lemmas.List.{take-append-drop}
use Rattle.std.proofs.lemmas.Str.{encode_ascii}
use Rattle.std.specs.Str.{IsUtf8}
use Rattle.yf_chars.specs.declared.context.Ctx.{Ctx}
use Rattle.yf_chars.specs.Class.{is_ns_char}
use Rattle.yf_chars.specs.Text.{code, next}
use Rattle.yf_chars.proofs.TextLemmas.{reads_real}
use Rattle.yf_lines.specs.Basic.{is_block}
use Rattle.yf_lines.specs.LineText.Follows.{nothing_follows}
use Rattle.yf_lines.proofs.RestLemmas.{Rest, rest_start}
use Rattle.yf_plain.proofs.PlainLemmas.{ns_below}
use Rattle.yf_props.specs.Props.{PropsValue, TagValue, no_props}
use Rattle.yf_props.specs.Written.{IsHandle, primary_form, secondary_form, named_form, IsProps, IsTag, verbatim_form, short_form, lone_form, parts_bytes, props_bytes, tag_bytes}
use Rattle.yf_grammar.specs.Productions.OneLineTexts.{Back}
use Rattle.yf_grammar.specs.Productions.Meaning.{Meaning}
use Rattle.yf_grammar.proofs.FlowReader.FlowStarts.{flow_starts}
use Rattle.yf_stream.proofs.Uniqueness.OneDirective.{ascii_ns}
use Rattle.yf_laws.proofs.Texts.LineUtf8.{line_utf8}

pub record IsSeen (w : List ℕ) : Type 0 where
  pub char : ℕ
  pub follows : List ℕ
  pub ns : is_ns_char char ≡ true
  pub no_hash : char ≢ 35
  pub is : w ≡ encode_utf8 char ++ follows

pub seen_ascii : (c : ℕ) (w : List ℕ) → 33 ≤ c → c < 127 → c ≢ 35 → IsSeen (c ∷ w)
seen_ascii c w l h n = record { char = c; follows = w; ns = ascii_ns c l h; no_hash = n; is = ap (λ z. z ++ w) (sym (encode_ascii c (omega arith))) }

pub seen_more : {w : List ℕ} (z : List ℕ) → IsSeen w → IsSeen (w ++ z)
seen_more z a = record { char = a.char; follows = a.follows ++ z; ns = a.ns; no_hash = a.no_hash; is = ap (λ v. v ++ z) a.is ∙ append_assoc (encode_utf8 a.char) a.follows z }

-- texts that read back as a node
pub seen_back : {json colon : Bool} {c : Ctx} {w : List ℕ} {height : ℕ} {mean : ℕ → Meaning} → is_block c ≡ false → Back json colon c w height mean → IsSeen w
seen_back {w = w} k a =
    let u : IsUtf8 w = line_utf8 a.line in
    let there : Rest w 0 (w ++ []) = subst (λ z. Rest w 0 z) (sym (append-nil w)) (rest_start w u) in
    let starts = (flow_starts (a.made (pos 0) 0 [] u nothing_follows there) k).starts in
    let char = reads_real w 0 u (ns_below (code w 0) starts.visible.ns) in
    record {
      char = code w 0;
      follows = drop (next w 0) w;
      ns = starts.visible.ns;
      no_hash = starts.visible.no_hash;
      is = sym (take-append-drop (next w 0) w) ∙ ap (λ z. z ++ drop (next w 0) w) char.bytes;
    }

-- properties
mark_seen : (w : List ℕ) → IsSeen (33 ∷ w)
mark_seen w = seen_ascii 33 w (omega arith) (omega arith) (λ e. omega arith)

handle_seen : {h : List ℕ} (x : List ℕ) → IsHandle h → IsSeen (h ++ x)
handle_seen x primary_form = mark_seen _
handle_seen x secondary_form = mark_seen _
handle_seen x (named_form a n) = mark_seen _

tag_seen : {v : TagValue} → IsTag v → IsSeen (tag_bytes v)
tag_seen (verbatim_form s n) = mark_seen _
tag_seen (short_form {x = x} k s n) = handle_seen x k
tag_seen lone_form = mark_seen _

anchor_seen : (w : List ℕ) → IsSeen (38 ∷ w)
anchor_seen w = seen_ascii 38 w (omega arith) (omega arith) (λ e. omega arith)

pub props_seen : {p : PropsValue} → IsProps p → p ≢ no_props → IsSeen (props_bytes p)
props_seen {p} k n = go p.anchor p.tag refl refl where
  none : p.anchor ≡ None → p.tag ≡ None → p ≡ no_props
  none e f = ap (λ a. record { anchor = a; tag = p.tag }) e ∙ ap (λ v. record { anchor = None; tag = v }) f

  go : (a : Option (List ℕ)) (v : Option TagValue) → p.anchor ≡ a → p.tag ≡ v → IsSeen (parts_bytes a v)
  go None None e f = absurd (n (none e f))
  go None (Some v) e f = tag_seen (k.tag v f)
  go (Some name) None e f = anchor_seen name
  go (Some name) (Some v) e f = anchor_seen _
