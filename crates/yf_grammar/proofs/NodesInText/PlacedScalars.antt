-- Block scalars are at the offsets at which they are read, with all lines that they reach, and their styles spell them.
use Rattle.std.proofs.Common.{◌≡◌, ◌≢◌, ℕ, ℤ, ◌+◌, ◌≤◌, Bool, true, false, List, [], length, Option, None, refl, ap, ◌∙◌, arith}
use Rattle.std.specs.Str.{IsUtf8}
use Rattle.yf_chars.specs.Class.{is_ns_char, is_nb_char, is_printable, is_between, is_break_char, is_white}
use Rattle.yf_chars.specs.Chain.Chain.{done}
use Rattle.yf_chars.proofs.ChainLemmas.{chain_forward}
use Rattle.yf_lines.proofs.LineLemmas.{line_functional}
use Rattle.yf_comments.specs.Comment.{CommentValue}
use Rattle.yf_block_scalar.specs.declared.header.Header.{Header}
use Rattle.yf_block_scalar.specs.declared.header.Chomp.{Chomp}
use Rattle.yf_block_scalar.specs.declared.header.Chomp.TheVariants.{Strip, Clip, Keep}
use Rattle.yf_block_scalar.specs.Header.{BlockHeader, HeaderValue, Style}
use Rattle.yf_block_scalar.specs.Header.BlockHeader.{block_header}
use Rattle.yf_block_scalar.specs.Header.Style.{literal_sign, folded_sign}
use Rattle.yf_block_scalar.specs.Body.{LinesTaken, Trail, Body, BodyValue}
use Rattle.yf_block_scalar.specs.Body.Trail.{comments, no_comment}
use Rattle.yf_block_scalar.specs.Body.Body.{indicated, detected, without_content}
use Rattle.yf_block_scalar.specs.Content.{content_of}
use Rattle.yf_block_scalar.proofs.LinesMade.{LinesTo, taken_lines, taken_all, blanks_one}
use Rattle.yf_props.specs.Props.{PropsValue, no_props}
use Rattle.yf_events.specs.declared.event.ScalarStyle.TheVariants.{Plain}
use Rattle.yf_events.specs.Tree.{scalar as scalar_tree}
use Rattle.yf_grammar.specs.Productions.BlockScalar.{BlockScalar, LinesBetween, style_of, kept_lines, reach}
use Rattle.yf_grammar.specs.Productions.BlockScalar.BlockScalar.{block_scalar}
use Rattle.yf_grammar.specs.Productions.BlockScalar.LinesBetween.{counted}
use Rattle.yf_grammar.specs.Productions.Grammar.{Production, Derives}
use Rattle.yf_grammar.specs.Productions.Meaning.{Meaning, meaning_after, with_props, from_to}
use Rattle.yf_grammar.proofs.BlockOutcomes.BlockStarts.{header_later, line_end_forward}
use Rattle.yf_grammar.proofs.Ends.GapLemmas.{Visible}
use Rattle.yf_grammar.proofs.NodesInText.NodePlaces.{HasProps, by_props, by_style, scalar_is_at}
use Rattle.yf_grammar.proofs.BlockOutcomes.OneScalars.{lines_one}
use Rattle.yf_grammar.proofs.NodesInText.PlacedNodes.{NodeAt}

-- A block scalar ends no later than the text that is read of it.

module _ {t : List ℕ} (u : IsUtf8 t) where
  between : {i j count : ℕ} → LinesTo t i j count → LinesBetween t count i j
  between a = counted a.chain a.counts

  reached : {i p q e lines all : ℕ} (tail : ℕ) (c : Chomp) → LinesTo t i p lines → LinesTo t i q all → all ≡ lines + tail → p ≤ q
      → LinesBetween t (reach c lines tail) i e → e ≤ q
  reached tail Strip a b s l d = let f = lines_one refl (between a) d in omega arith
  reached tail Clip a b s l d = let f = lines_one refl (between a) d in omega arith
  reached tail Keep a b s l d = let f = lines_one s (between b) d in omega arith

  trail_forward : {k i j : ℕ} {x : List CommentValue} → Trail t k i j x → i ≤ j
  trail_forward (comments m l a e c) = line_end_forward c.derived
  trail_forward (no_comment n) = omega arith

  lines_forward : {i j count : ℕ} → LinesTo t i j count → i ≤ j
  lines_forward a = chain_forward (line_functional t) a.chain

  taken_reached : {k i e p count : ℕ} {ls : List (List ℕ)} {o : Bool} (c : Chomp) → (a : LinesTaken t k i ls o count p)
      → LinesBetween t (reach c (length ls) count) i e → e ≤ p
  taken_reached {count = count} c a d = reached count c (taken_lines u a) (taken_all u a) refl (lines_forward (blanks_one a.tail.lines)) d

  pub body_reached : {n : ℤ} {h : Header} {i j e : ℕ} {b : BodyValue} → Body t n h i j b → LinesBetween t (reach h.chomp (length b.lines) b.tail) i e → e ≤ j
  body_reached {h = h} (indicated q a b) d = let l = taken_reached h.chomp a d in let m = trail_forward b in omega arith
  body_reached {h = h} (detected q w a b) d = let l = taken_reached h.chomp a d in let m = trail_forward b in omega arith
  body_reached {h = h} {i = i} (without_content {widths = widths} q c w b) d =
      let none : LinesTo t i i 0 = record { lines = []; chain = done; counts = refl } in
      let l = reached (length widths) h.chomp none (blanks_one c) (omega arith) (lines_forward (blanks_one c)) d in
      let m = trail_forward b in
      omega arith

  pub between_forward : {i j count : ℕ} → LinesBetween t count i j → i ≤ j
  between_forward (counted c l) = chain_forward (line_functional t) c

-- Its first character.

bar_seen : (is_ns_char 124 ≡ true) × (is_ns_char 62 ≡ true)
unfolding is_ns_char is_nb_char is_printable is_between is_break_char is_white
bar_seen = (refl, refl)

style_visible : {t : List ℕ} {i j : ℕ} {f : Bool} → Style t i j f → Visible t i
style_visible (literal_sign e) = record { ns = ap is_ns_char e ∙ bar_seen.0; no_hash = λ q. absurd (omega arith) }
style_visible (folded_sign e) = record { ns = ap is_ns_char e ∙ bar_seen.1; no_hash = λ q. absurd (omega arith) }

header_visible : {t : List ℕ} {i j : ℕ} {h : HeaderValue} → BlockHeader t i j h → Visible t i
header_visible (block_header s m r) = style_visible s

block_style : (f : Bool) → style_of f ≢ Plain
block_style true e = absurd cc
block_style false e = absurd cc

pub scalar_visible : {t : List ℕ} {n : ℤ} {i j : ℕ} {x : Meaning} → BlockScalar t n i j x → Visible t i
scalar_visible (block_scalar h b l) = header_visible h

module _ {t : List ℕ} (u : IsUtf8 t) where
  pub block_scalar_at : {h f j k : ℕ} {n : ℤ} {p : Production} {x : Meaning} (cs : List CommentValue) → BlockScalar t n k j x → Derives t h p f j (meaning_after cs x)
      → NodeAt t k j (meaning_after cs x)
  unfolding meaning_after from_to
  block_scalar_at {k = k} cs (block_scalar {e = e} {h = h} {b = b} a c l) d = record {
    node = scalar_tree (record { span = from_to k e; tag_offset = None; entry = None }) no_props (style_of h.header.folded)
        (content_of h.header b.lines b.tail b.open_end) (kept_lines h.header.folded b.lines);
    events = refl;
    no_entry = refl;
    is_there = scalar_is_at refl (record { order = omega arith; visible = header_visible a })
        (let m = header_later a in let o = between_forward u l in omega arith) (omega arith) (by_style (block_style h.header.folded)) (record {
          text = t;
          utf8 = u;
          production = _;
          height = _;
          from = _;
          to = _;
          meaning = _;
          derived = d;
          at = record { span = from_to k e; tag_offset = None; entry = None };
          is = refl;
        });
    ends = body_reached u c l;
  }

  pub block_scalar_with : {h i f j k : ℕ} {n : ℤ} {p : Production} {x : Meaning} {props : PropsValue} (o : Option ℕ) (g : ℕ) (cs : List CommentValue)
      → BlockScalar t n k j x → Derives t h p i j (meaning_after cs (with_props props o f g x)) → Visible t f → f ≤ k → HasProps props
      → NodeAt t f j (meaning_after cs (with_props props o f g x))
  unfolding meaning_after with_props from_to
  block_scalar_with {f = f} {k = k} {props = props} o g cs (block_scalar {e = e} {h = h} {b = b} a c l) d v m w = record {
    node = scalar_tree (record { span = from_to f e; tag_offset = o; entry = None }) props (style_of h.header.folded)
        (content_of h.header b.lines b.tail b.open_end) (kept_lines h.header.folded b.lines);
    events = refl;
    no_entry = refl;
    is_there = scalar_is_at refl (record { order = omega arith; visible = v })
        (let q = header_later a in let r = between_forward u l in omega arith) (omega arith) (by_props w) (record {
          text = t;
          utf8 = u;
          production = _;
          height = _;
          from = _;
          to = _;
          meaning = _;
          derived = d;
          at = record { span = from_to f e; tag_offset = o; entry = None };
          is = refl;
        });
    ends = body_reached u c l;
  }
