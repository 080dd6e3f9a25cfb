-- A derived literal or folded scalar in the text: its event, and its lines.
use Rattle.std.proofs.Common.{◌≡◌, ◌≢◌, ℕ, zero, suc, ◌+◌, ◌-◌, ◌<◌, ◌≤◌, ◌⊎◌, inl, inr, ℤ, true, false, true≢false, List, [], ◌++◌, length, replicate, Option, refl, sym, ap, subst, arith, length-append, ⊎_elim}
use Rattle.std.proofs.lemmas.List.{length-map}
use Rattle.std.specs.Str.{IsUtf8}
use Rattle.yf_chars.specs.declared.context.Ctx.{Ctx}
use Rattle.yf_chars.specs.Text.{code}
use Rattle.yf_comments.specs.Comments.{Separate}
use Rattle.yf_block_scalar.specs.Content.{content_of}
use Rattle.yf_block_scalar.specs.declared.header.Chomp.TheVariants.{Keep}
use Rattle.yf_block_scalar.specs.declared.header.Header.{Header}
use Rattle.yf_props.specs.Props.{PropsValue, no_props}
use Rattle.yf_props.specs.Names.{Properties}
use Rattle.yf_props.specs.Written.{props_at}
use Rattle.yf_events.specs.Event.{scalar_node}
use Rattle.yf_events.specs.declared.event.ScalarStyle.{ScalarStyle}
use Rattle.yf_events.specs.declared.event.ScalarStyle.TheVariants.{Plain, Single, Double, Literal, Folded}
use Rattle.yf_grammar.specs.Productions.BlockScalar.{style_of}
use Rattle.yf_grammar.specs.Productions.Meaning.{event_with, first_with, with_props, from_to}
use Rattle.yf_grammar.proofs.NodesInText.NodePlaces.{content_alone}
use Rattle.yf_stream.proofs.Uniqueness.OneDirective.{ascii_ns}
use Rattle.yf_forms.specs.Nodes.BlockLines.{block_lines, content_lines, final_feeds, line_at}
use Rattle.yf_laws.specs.Nodes.BlockValues.{is_folded, chomp_of, header_of}
use Rattle.yf_laws.specs.Layouts.ReadableTrees.{FitScalar, is_block_style}
use Rattle.yf_forms.specs.Nodes.ContentStart.{content_start}
use Rattle.yf_laws.proofs.Writable.ContentFound.{content_found, content_starts_are_found}
use Rattle.yf_laws.proofs.OutputLines.HeldLemmas.{Holds, here, ScalarAt, ScalarHeld, SeenEnd}
use Rattle.yf_laws.proofs.OutputLines.ScalarHeld.{HeaderPassed, ScalarReached, header_char, lines_forward}
use Rattle.yf_laws.proofs.OutputLines.WellSet.{AllSet}

-- a scalar that is derived, the start of its lines, and that its comments are well set
pub record ScalarMade (t : List ℕ) (n : ℤ) (h : Header) (ls : List (List ℕ)) (count : ℕ) (notes : List (List ℕ)) (q : ℕ) (r z e : List ℕ) : Type 0 where
  pub reached : ScalarReached t n h ls count notes q r
  pub passed : HeaderPassed t q reached.start z
  pub comments : AllSet t reached.node.meaning.comments
  pub seen : SeenEnd t e

pub style_back : (style : ScalarStyle) → is_block_style style ≡ true → style_of (is_folded style) ≡ style
style_back Plain e = absurd (true≢false (sym e))
style_back Single e = absurd (true≢false (sym e))
style_back Double e = absurd (true≢false (sym e))
style_back Literal e = refl
style_back Folded e = refl

-- The scalar in the text.

keeps_or : (n : ℕ) → (chomp_of n ≡ Keep) ⊎ (n - 1 ≡ 0)
keeps_or zero = inr refl
keeps_or (suc zero) = inr refl
keeps_or (suc (suc n)) = inl refl

abbrev nothings : ℕ → List (List ℕ)
nothings n = replicate n []

nothing_long : (n : ℕ) → length (nothings n) ≡ n
nothing_long zero = refl
nothing_long (suc n) = ap suc (nothing_long n)

as_many_lines : (style : ScalarStyle) (text : List ℕ) (lines : List (List ℕ)) (column count : ℕ) → length (content_lines style text lines) ≤ count
    → (chomp_of (final_feeds text) ≡ Keep → length (content_lines style text lines) + (final_feeds text - 1) ≤ count) → length (block_lines style column text lines) ≤ count
as_many_lines style text lines column count many kept =
    let ls : List (List ℕ) = content_lines style text lines in
    let tail : List (List ℕ) = replicate (final_feeds text - 1) [] in
    let long : length (block_lines style column text lines) ≡ length (ls ++ tail) = length-map (ls ++ tail) (line_at column) in
    let both : length (ls ++ tail) ≡ length ls + length tail = length-append ls tail in
    let few : length tail ≡ final_feeds text - 1 = nothing_long (final_feeds text - 1) in
    ⊎_elim (λ (e : chomp_of (final_feeds text) ≡ Keep). let k = kept e in omega (arith, long, both, few, k))
    (λ (e : final_feeds text - 1 ≡ 0). omega (arith, long, both, few, many, e)) (keeps_or (final_feeds text))

sign_seen : (c : ℕ) → (c ≡ 124) ⊎ (c ≡ 62) → (36 ≤ c) × ((c < 127) × ((c ≢ 38) × (c ≢ 33)))
sign_seen c e = ⊎_elim (λ (z : c ≡ 124). (omega (arith, z), (omega (arith, z), ((λ q. omega (arith, z, q)), (λ q. omega (arith, z, q))))))
    (λ (z : c ≡ 62). (omega (arith, z), (omega (arith, z), ((λ q. omega (arith, z, q)), (λ q. omega (arith, z, q)))))) e

module _ {t : List ℕ} {n : ℤ} {style : ScalarStyle} {text : List ℕ} {lines : List (List ℕ)} {i : ℕ} {notes : List (List ℕ)} {r z y : List ℕ} (indent column : ℕ) (u : IsUtf8 t) (f : FitScalar style text lines)
    (a : ScalarMade t n (header_of style indent text) (content_lines style text lines) (final_feeds text - 1) notes i r z y) where
  later_end : i < a.reached.node.meaning.finish
  later_end = let b = a.passed.before in let l = lines_forward a.reached.between in omega (arith, b, l)

  event_is : scalar_node no_props (style_of (is_folded style)) (content_of (header_of style indent text) (content_lines style text lines) (final_feeds text - 1) false) ≡ scalar_node no_props style text
  event_is = λ k. scalar_node no_props (style_back style f.block k) (f.content indent k)

  scalar_is_at : (p : PropsValue) (q : ℕ) → content_start t (record { start = q; end = a.reached.node.meaning.finish }) p ≡ i
      → ScalarAt t (scalar_node p style text) (from_to q a.reached.node.meaning.finish) column (block_lines style column text lines) z
  unfolding from_to
  scalar_is_at p q content = record {
    props = p;
    style = style;
    text = text;
    lines = lines;
    is = refl;
    fit = f;
    are = refl;
    span = record { start = q; end = a.reached.node.meaning.finish };
    part_is = refl;
    head = i;
    content = content;
    sign = header_char a.reached.head;
    place = a.reached.start;
    rest = a.passed.rest;
    start = a.passed.start;
    before = a.passed.before;
    quiet = a.passed.quiet;
    count = a.reached.lines;
    all = as_many_lines style text lines column a.reached.lines a.reached.many a.reached.kept;
    reach = a.reached.between;
  }

  pub bare_scalar : ScalarHeld t a.reached.node.meaning.events column (block_lines style column text lines) z
  bare_scalar = record {
    event = scalar_node no_props style text;
    part = from_to i a.reached.node.meaning.finish;
    among = subst (λ es. Holds (scalar_node no_props style text) (from_to i a.reached.node.meaning.finish) es) (sym a.reached.node.events) (here event_is refl);
    scalar = scalar_is_at no_props i (content_found u a.reached.node.meaning.finish content_alone later_end);
  }

  with_here : (p : PropsValue) (o : Option ℕ) (q g : ℕ) → Holds (scalar_node p style text) (from_to q a.reached.node.meaning.finish) (with_props p o q g a.reached.node.meaning).events
  unfolding from_to with_props
  with_here p o q g =
      subst (λ es. Holds (scalar_node p style text) (from_to q a.reached.node.meaning.finish) (first_with p o q g es)) (sym a.reached.node.events) (here (λ k. event_with p (event_is k)) refl)

  pub props_scalar : (q g : ℕ) (p : PropsValue) (o : Option ℕ) (m : ℤ) (c : Ctx) → Properties t m c q g (props_at q p) → Separate t m c g i [] → ScalarHeld t (with_props p o q g a.reached.node.meaning).events column (block_lines style column text lines) z
  props_scalar q g p o m c props apart =
      let sign = sign_seen (code t i) (header_char a.reached.head) in
      record {
        event = scalar_node p style text;
        part = from_to q a.reached.node.meaning.finish;
        among = with_here p o q g;
        scalar = scalar_is_at p q (content_starts_are_found t m c q g i a.reached.node.meaning.finish (props_at q p) [] u props apart (ascii_ns (code t i) (omega (arith, sign.0)) sign.1.0)
            (λ e. omega (arith, e, sign.0)) sign.1.1.0 sign.1.1.1 later_end);
      }
