-- Rows that may follow a blank line begin with an entry, and no such row begins with a percent sign.
use Rattle.std.proofs.Common.{◌≡◌, ◌≢◌, ℕ, pos, ◌-◌, Bool, true, false, true≢false, List, [], ◌∷◌, ◌++◌, get_or, map, replicate, Option, Some, None, refl, sym, ◌∙◌, subst, arith, append-nil}
use Rattle.std.specs.Str.{IsUtf8}
use Rattle.yf_chars.specs.declared.context.Ctx.TheVariants.{BlockKey}
use Rattle.yf_chars.proofs.TextLemmas.{code_from_byte}
use Rattle.yf_lines.specs.LineText.Follows.{nothing_follows}
use Rattle.yf_lines.specs.Rest.{Rest}
use Rattle.yf_lines.proofs.RestLemmas.{rest_start}
use Rattle.yf_comments.specs.Comment.{CommentValue}
use Rattle.yf_events.specs.declared.directive.Directive.{Directive}
use Rattle.yf_events.specs.declared.document.Doc.{Doc}
use Rattle.yf_events.specs.declared.event.ScalarStyle.{ScalarStyle}
use Rattle.yf_events.specs.declared.event.ScalarStyle.TheVariants.{Plain, Single, Double, Literal, Folded}
use Rattle.yf_events.specs.Tree.{NodeOffsets, Node, scalar, Items, item, Pairs, pair, DocumentTree}
use Rattle.yf_props.specs.Props.{PropsValue}
use Rattle.yf_grammar.specs.Productions.OneLineTexts.{Back}
use Rattle.yf_stream.proofs.Uniqueness.NoPercent.{no_percent_flow}
use Rattle.yf_forms.specs.declared.style.Style.{Style}
use Rattle.yf_laws.specs.Layouts.FitDocuments.{FitDocuments, fit_no_documents, fit_document}
use Rattle.yf_laws.specs.Layouts.ReadableTrees.{Fit, fit_nothing, fit_line, fit_scalar, fit_sequence, fit_mapping, FitItems, fit_no_items, fit_item, FitPairs, fit_no_pairs, fit_pair}
use Rattle.yf_forms.specs.NormalForms.Normal.{LayoutSetting, Margins, inner_margins, key_margins, value_margins, is_implicit, key_comment, root_margins}
use Rattle.yf_forms.specs.Nodes.OneLine.{written, colon_after, props_text}
use Rattle.yf_print.specs.Layouts.Rows.{Row, one_line_row, props_row, joined, after_sign, after_key, begins_below, entry_row, colon_row, key_row, pair_rows, rows, rows_of_items, rows_of_pairs, directive_row, end_rows, beginning_at, begun_at, all_rows, stream_rows}
use Rattle.yf_laws.proofs.Texts.LineUtf8.{line_utf8}
use Rattle.yf_laws.proofs.Derived.TreesMade.{block_is_no_key, either_pair, inline_rows, not_implicit}

abbrev pub first_byte : List ℕ → ℕ
first_byte [] = 0
first_byte (c ∷ w) = c

-- a row with a text, which doesn't begin with a percent sign if a blank line may be before it
pub record IsLead (x : Row) : Type 0 where
  pub none : x.blank_before ≡ true → first_byte x.text ≢ 37

pub data LeadRows : List Row → Type 0 where
  no_lead : LeadRows []
  lead_more : {x : Row} {xs : List Row} → IsLead x → LeadRows xs → LeadRows (x ∷ xs)

leads_append : {xs ys : List Row} → LeadRows xs → LeadRows ys → LeadRows (xs ++ ys)
leads_append no_lead b = b
leads_append (lead_more a more) b = lead_more a (leads_append more b)

-- a row that may not follow a blank line
unspaced : {x : Row} → x.blank_before ≡ false → IsLead x
unspaced e = record { none = λ f. absurd (true≢false (sym f ∙ e)) }

-- a row with a text that begins so
signed : {x : Row} → first_byte x.text ≢ 37 → IsLead x
signed n = record { none = λ e. n }

pub first_joined : (w z : List ℕ) → w ≢ [] → first_byte (w ++ z) ≡ first_byte w
first_joined [] z n = absurd (n refl)
first_joined (c ∷ w) z n = refl

joined_leads : (head : Row) (n : ℕ) {rs : List Row} → head.text ≢ [] → IsLead head → LeadRows rs → LeadRows (joined head n rs)
joined_leads head n some a no_lead = lead_more a no_lead
joined_leads head n some a (lead_more {x = x} b more) =
    lead_more (record { none = λ e f. a.none e (sym (first_joined head.text (replicate n 32 ++ x.text) some) ∙ f) }) more

after_leads : (head : Row) {rs : List Row} (o : Option CommentValue) (below : Bool) → head.text ≢ [] → IsLead head → LeadRows rs → LeadRows (after_key head o below rs)
after_leads head (Some c) below some a b = lead_more (record { none = a.none }) b
after_leads head None true some a b = lead_more (record { none = a.none }) b
after_leads head None false some a b = joined_leads head 1 some a b

line_leads : (column : ℕ) (x : Node) (w : List ℕ) → LeadRows (one_line_row column x w)
line_leads column x [] = no_lead
line_leads column x (b ∷ w) = lead_more (unspaced refl) no_lead

props_leads : (column : ℕ) (w : List ℕ) → LeadRows (props_row column w)
props_leads column [] = no_lead
props_leads column (b ∷ w) = lead_more (unspaced refl) no_lead

-- Keys.

back_lead : {json colon : Bool} {w : List ℕ} {height : ℕ} {mean : ℕ → _} → Back json colon BlockKey w height mean → w ≢ [] → first_byte w ≢ 37
back_lead {w = []} a some e = some refl
back_lead {w = c ∷ w} a some e =
    let u : IsUtf8 (c ∷ w) = line_utf8 a.line in
    let there : Rest (c ∷ w) 0 ((c ∷ w) ++ []) = subst (λ z. Rest (c ∷ w) 0 z) (sym (append-nil (c ∷ w))) (rest_start (c ∷ w) u) in
    let byte : get_or (c ∷ w) 0 0 ≡ 37 = e in
    no_percent_flow refl (code_from_byte (c ∷ w) 0 u (omega arith) (omega (arith, byte)) ∙ byte) (a.made (pos 0) 0 [] u nothing_follows there)

key_lead : (c : LayoutSetting) (column : ℕ) {k : Node} → is_implicit c.style column k ≡ true → Fit c.style k → (first_byte (written c.style k ++ colon_after k) ≢ 37) × (written c.style k ++ colon_after k ≢ [])
key_lead c column e (fit_nothing f) = ((λ z. omega (arith, z)), (λ z. absurd cc))
key_lead c column {k} e (fit_line inline some node key) = go (written c.style k) some (back_lead key.node.back some) where
  go : (w : List ℕ) → w ≢ [] → first_byte w ≢ 37 → (first_byte (w ++ colon_after k) ≢ 37) × (w ++ colon_after k ≢ [])
  go [] s n = absurd (s refl)
  go (b ∷ w) s n = (n, (λ z. absurd cc))
key_lead c column {k} e (fit_scalar {at = at} {p = p} {style = style} {text = text} {lines = lines} f g h) =
    absurd (not_implicit c column k (block_is_no_key c column at p text lines style h.block) e)
key_lead c column {k} e (fit_sequence f p g gs) = absurd (not_implicit c column k refl e)
key_lead c column {k} e (fit_mapping f p g h gs) = absurd (not_implicit c column k refl e)

-- Trees.

record Leading (c : LayoutSetting) (x : Node) : Type 0 where
  pub leads : (margins : Margins) → LeadRows (rows c margins x)

sign_leads : (s : Style) (column sign : ℕ) (x : Node) {rs : List Row} → sign ≢ 37 → LeadRows rs → LeadRows (after_sign s (entry_row column (sign ∷ []) x) rs)
sign_leads s column sign x n a = joined_leads (entry_row column (sign ∷ []) x) (s.indent - 1) (λ e. absurd cc) (signed n) a

pair_leads : (c : LayoutSetting) (column : ℕ) {k v : Node} → Fit c.style k → Leading c k → Leading c v → LeadRows (pair_rows c column k v (rows c (key_margins c.style column k) k) (rows c (value_margins c column k v) v))
pair_leads c column {k} {v} fit f g = go (is_implicit c.style column k) refl where
  go : (b : Bool) → is_implicit c.style column k ≡ b → LeadRows (either_pair (is_implicit c.style column k) c column k v)
  go true e = let key = key_lead c column e fit in
      subst (λ b. LeadRows (either_pair b c column k v)) (sym e) (after_leads (key_row c.style column k) (key_comment c.comments k v) (begins_below v) key.1 (signed key.0) (g.leads _))
  go false e = subst (λ b. LeadRows (either_pair b c column k v)) (sym e)
      (leads_append (sign_leads c.style column 63 k (λ z. omega (arith, z)) (f.leads (key_margins c.style column k)))
      (joined_leads (colon_row column k) (c.style.indent - 1) (λ z. absurd cc) (unspaced refl) (g.leads (inner_margins c.style column))))

scalar_leads : (c : LayoutSetting) (margins : Margins) (at : NodeOffsets) (p : PropsValue) (style : ScalarStyle) (text : List ℕ) (lines : List (List ℕ)) → LeadRows (rows c margins (scalar at p style text lines))
scalar_leads c margins at p Plain text lines = line_leads margins.column (scalar at p Plain text lines) (written c.style (scalar at p Plain text lines))
scalar_leads c margins at p Single text lines = line_leads margins.column (scalar at p Single text lines) (written c.style (scalar at p Single text lines))
scalar_leads c margins at p Double text lines = line_leads margins.column (scalar at p Double text lines) (written c.style (scalar at p Double text lines))
scalar_leads c margins at p Literal text lines = lead_more (unspaced refl) no_lead
scalar_leads c margins at p Folded text lines = lead_more (unspaced refl) no_lead

module _ (c : LayoutSetting) where
  mutual
    leading : {x : Node} → Fit c.style x → Leading c x
    leading (fit_nothing {at = at} e) = record { leads = λ margins. no_lead }
    leading {x} (fit_line inline some node key) = record { leads = λ margins. subst (λ rs. LeadRows rs) (sym (inline_rows c margins x inline)) (line_leads margins.column x (written c.style x)) }
    leading (fit_scalar {at = at} {p = p} {style = style} {text = text} {lines = lines} e props f) = record { leads = λ margins. scalar_leads c margins at p style text lines }
    leading (fit_sequence {p = p} e props f fs) = record { leads = λ margins. leads_append (props_leads margins.column (props_text p)) (items_lead margins.entries (leading f) fs) }
    leading (fit_mapping {p = p} e props f g fs) = record { leads = λ margins. leads_append (props_leads margins.column (props_text p)) (pairs_lead margins.entries f (leading f) (leading g) fs) }

    items_lead : (column : ℕ) {x : Node} {xs : Items} → Leading c x → FitItems c.style xs → LeadRows (rows_of_items c column (item x xs))
    items_lead column {x} f fit_no_items = leads_append (sign_leads c.style column 45 x (λ z. omega (arith, z)) (f.leads (inner_margins c.style column))) no_lead
    items_lead column {x} f (fit_item g gs) = leads_append (sign_leads c.style column 45 x (λ z. omega (arith, z)) (f.leads (inner_margins c.style column))) (items_lead column (leading g) gs)

    pairs_lead : (column : ℕ) {k v : Node} {ps : Pairs} → Fit c.style k → Leading c k → Leading c v → FitPairs c.style ps → LeadRows (rows_of_pairs c column (pair k v ps))
    pairs_lead column fit f g fit_no_pairs = leads_append (pair_leads c column fit f g) no_lead
    pairs_lead column fit f g (fit_pair a b fs) = leads_append (pair_leads c column fit f g) (pairs_lead column a (leading a) (leading b) fs)

-- Documents.

begun_lead : {x : Row} (start : ℕ) → IsLead x → IsLead (record x { items = start ∷ x.items })
begun_lead start a = record { none = a.none }

beginning_leads : (start : ℕ) {xs : List Row} → LeadRows xs → LeadRows (beginning_at start xs)
beginning_leads start no_lead = no_lead
beginning_leads start (lead_more a more) = lead_more (begun_lead start a) more

end_leads : (b : Bool) (dirs : List Directive) → LeadRows (end_rows b dirs)
end_leads true dirs = no_lead
end_leads false [] = no_lead
end_leads false (d ∷ ds) = lead_more (unspaced refl) no_lead

directive_leads : (dirs : List Directive) → LeadRows (map directive_row dirs)
directive_leads [] = no_lead
directive_leads (d ∷ ds) = lead_more (unspaced refl) (directive_leads ds)

pub stream_leads : (c : LayoutSetting) {ds : List Doc} {xs : List DocumentTree} (b : Bool) → FitDocuments c.style ds xs → LeadRows (stream_rows c b ds xs)
stream_leads c b fit_no_documents = no_lead
stream_leads c b (fit_document {d = d} {x = x} f fit more) =
    leads_append (leads_append (beginning_leads d.start (leads_append (end_leads b d.directives) (leads_append (directive_leads d.directives) (lead_more (unspaced refl) no_lead))))
    ((leading c fit).leads (root_margins c.style))) (stream_leads c false more)

begun_leads : (start : ℕ) {xs : List Row} → LeadRows xs → LeadRows (begun_at start xs)
begun_leads start no_lead = no_lead
begun_leads start (lead_more a more) = lead_more (record { none = a.none }) more

pub all_leads : (c : LayoutSetting) (bare : Bool) {ds : List Doc} {xs : List DocumentTree} → FitDocuments c.style ds xs → LeadRows (all_rows c bare ds xs)
all_leads c false fit = stream_leads c true fit
all_leads c true fit_no_documents = no_lead
all_leads c true (fit_document {d = d} {x = x} f fit more) = leads_append (begun_leads d.start ((leading c fit).leads (root_margins c.style))) (stream_leads c false more)
