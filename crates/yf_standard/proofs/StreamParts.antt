-- Documents and streams (9): their tokens state the documents and the comments of `Stream`.
use Rattle.std.proofs.Common.{◌≡◌, ℕ, ◌+◌, ◌≤◌, Bool, true, false, List, [], ◌∷◌, ◌++◌, length, map, refl, sym, ap, ◌∙◌, subst, append_assoc, append-nil, inl, inr, arith}
use Rattle.std.proofs.lemmas.Bool.{eqb-true}
use Rattle.std.specs.Str.{IsUtf8}
use Rattle.yf_chars.specs.Text.{code, next}
use Rattle.yf_chars.specs.Chain.{Chain}
use Rattle.yf_chars.specs.Chain.Chain.{done, step}
use Rattle.yf_lines.specs.Basic.{is_three}
use Rattle.yf_lines.specs.Basic.LineStart.{at_text}
use Rattle.yf_comments.specs.Comment.{CommentValue}
use Rattle.yf_comments.specs.Comments.{CommentLine, LineEnd}
use Rattle.yf_events.specs.Event.{EventInText, EventValue}
use Rattle.yf_events.specs.declared.directive.Directive.{Directive}
use Rattle.yf_grammar.specs.Productions.Meaning.{Meaning, meaning_after}
use Rattle.yf_stream.specs.Stream.{Document, Documents, document_of, RootNode, ExplicitNode, AnyDocument, PrefixPart, Prefixes, Suffixes, StreamRest, Stream, with_document, with_comments}
use Rattle.yf_stream.specs.Stream.ExplicitNode.{marked_node, marked_nothing}
use Rattle.yf_stream.specs.Stream.AnyDocument.{bare_document, explicit_document, directive_document}
use Rattle.yf_stream.specs.Stream.PrefixPart.{order_mark, prefix_comment}
use Rattle.yf_stream.specs.Stream.Suffixes.{last_suffix, more_suffixes}
use Rattle.yf_stream.specs.Stream.StreamRest.{stream_ended, past_prefix, past_suffixes, past_suffixes_and_document, past_explicit}
use Rattle.yf_stream.specs.Stream.Stream.{begins_with_document, without_document}
use Rattle.yf_standard.specs.Characters.{x, c-byte-order-mark}
use Rattle.yf_standard.specs.Tokens.{Token, notes, notes_of, no_tokens}
use Rattle.yf_standard.specs.Tokens.Token.{a_document}
use Rattle.yf_standard.specs.Readings.{Said, StreamSaid, said_of, tag_places, stream_said, document_said, documents_said}
use Rattle.yf_standard.proofs.Meant.{Then, Either, Perhaps, Several, Character}
use Rattle.yf_standard.proofs.Meant.Then.{both}
use Rattle.yf_standard.proofs.Meant.Either.{left, right}
use Rattle.yf_standard.proofs.Meant.Perhaps.{missing, given}
use Rattle.yf_standard.proofs.Meant.Several.{several}
use Rattle.yf_standard.proofs.Meant.Character.{character}
use Rattle.yf_standard.proofs.BasicsMeant.{Quiet}
use Rattle.yf_standard.proofs.BasicsMeant.Puts.{puts}
use Rattle.yf_standard.proofs.CommentsMeant.{Noted, notes_append}
use Rattle.yf_standard.proofs.CommentsMeant.Noted.{noted}
use Rattle.yf_standard.proofs.ScalarsWhole.{line_begins}
use Rattle.yf_standard.proofs.StreamsRead.{Begins, BareRead, bare_known, begins_within, line_end_begins, part_begins, parts_begin}
use Rattle.yf_standard.proofs.SaidParts.{notes_of_append, comments_joined}
use Rattle.yf_standard.proofs.DirectivesSaid.{LinesSaid, with_stream, notes_streamed}
use Rattle.yf_chars.proofs.ChainLemmas.{chain_append}
use Rattle.yf_grammar.proofs.BlockOutcomes.BlockEnds.{block_ends}

-- a document, and the rest of the stream
abbrev with_said : Bool → List Directive → Said → StreamSaid → StreamSaid
with_said m ds d s = record {
  documents = record { marked = m; directives = ds; events = d.events; tags = d.tags; escapes = d.escapes } ∷ s.documents;
  comments = d.comments ++ s.comments;
}

document_streamed : (x : Meaning) (m : Bool) (ds : List Directive) (z : List Token) → stream_said ds (a_document m (said_of x) ∷ z) ≡ with_said m ds (said_of x) (stream_said [] z)
unfolding stream_said
document_streamed x m ds z = refl

-- [207] and [208]
pub data BareSaid (t : List ℕ) (e i j : ℕ) : List Token → Type 0 where
  bare_said : {h : ℕ} {x : Meaning} → RootNode t h i j x → h ≤ e → BareSaid t e i j (a_document false (said_of x) ∷ [])

pub data ExplicitSaid (t : List ℕ) (e i j : ℕ) : List Token → Type 0 where
  explicit_said : {h : ℕ} {x : Meaning} → ExplicitNode t h i j x → h ≤ e → ExplicitSaid t e i j (a_document true (said_of x) ∷ [])

-- [210]
abbrev pub AnySaid : List ℕ → ℕ → ℕ → ℕ → List Token → Type 0
AnySaid t e = Either (Then (LinesSaid t) (ExplicitSaid t e)) (Either (ExplicitSaid t e) (BareSaid t e))

explicit_ends : {t : List ℕ} {h i j : ℕ} {x : Meaning} → ExplicitNode t h i j x → Begins t j
explicit_ends (marked_node q r) = block_ends r.derived
explicit_ends (marked_nothing q l) = line_end_begins l

explicit_begins : {t : List ℕ} {e i j : ℕ} {y : List Token} → ExplicitSaid t e i j y → Begins t j
explicit_begins (explicit_said n l) = explicit_ends n

any_ends : {t : List ℕ} {e i j : ℕ} {y : List Token} → AnySaid t e i j y → Begins t j
any_ends (left (both d n)) = explicit_begins n
any_ends (right (left n)) = explicit_begins n
any_ends (right (right (bare_said r l))) = block_ends r.derived

-- a document after the comment lines that a bare one begins with
record DocumentIs (t : List ℕ) (e i j : ℕ) (y : List Token) : Type 0 where
  pub at : ℕ
  pub before : List CommentValue
  pub prefixes : Prefixes t i at before
  pub height : ℕ
  pub value : Document
  pub comments : List CommentValue
  pub derived : AnyDocument t height at j value comments
  pub fits : height ≤ e
  pub says : (z : List Token) → stream_said [] (y ++ z) ≡ (let s : StreamSaid = stream_said [] z in record { documents = document_said value ∷ s.documents; comments = notes_of (before ++ comments) ++ s.comments })

abbrev with_value : Document → List CommentValue → StreamSaid → StreamSaid
with_value d cs s = record { documents = document_said d ∷ s.documents; comments = notes_of cs ++ s.comments }

same_stream : {a b : StreamSaid} → a.documents ≡ b.documents → a.comments ≡ b.comments → a ≡ b
same_stream d c = λ k. record { documents = d k; comments = c k }

moved : (cs : List CommentValue) (k : ℕ) (m : Meaning) (s : StreamSaid) → with_said false [] (said_of (meaning_after cs m)) s ≡ with_value (document_of k false [] m) (cs ++ m.comments) s
unfolding meaning_after document_of
moved cs k m s = refl

document_is : {t : List ℕ} {e i j : ℕ} {y : List Token} → IsUtf8 t → Begins t i → j ≤ length t → AnySaid t e i j y → DocumentIs t e i j y
unfolding document_of
document_is {t} {e} {i} {j} u b l (left (both {k = k} {x = y} d n)) = go n where
  go : {w : List Token} → ExplicitSaid t e k j w → DocumentIs t e i j (y ++ w)
  go (explicit_said {x = x} n l) = record {
    at = i;
    before = [];
    prefixes = done;
    height = _;
    value = document_of k true d.value.directives x;
    comments = d.value.comments ++ x.comments;
    derived = directive_document d.lines n;
    fits = l;
    says = λ z.
        ap (λ w. stream_said [] w) (append_assoc y (a_document true (said_of x) ∷ []) z) ∙ d.says [] (a_document true (said_of x) ∷ z)
        ∙ ap (λ s. with_stream d.value.comments s) (document_streamed x true d.value.directives z)
        ∙ same_stream refl (comments_joined d.value.comments x.comments (stream_said [] z).comments);
  }
document_is {i = i} u b l (right (left (explicit_said {x = x} n h))) = record {
  at = i;
  before = [];
  prefixes = done;
  height = _;
  value = document_of i true [] x;
  comments = x.comments;
  derived = explicit_document n;
  fits = h;
  says = λ z. document_streamed x true [] z;
}
document_is {t} {e} {i} {j} u b l (right (right (bare_said {h = h} {x = x} r o))) = go (bare_known u b l r) where
  go : BareRead t h i j x → DocumentIs t e i j (a_document false (said_of x) ∷ [])
  go a = record {
    at = a.at;
    before = a.comments;
    prefixes = a.before;
    height = h;
    value = document_of a.content false [] a.meaning;
    comments = a.meaning.comments;
    derived = bare_document a.root a.starts;
    fits = o;
    says = λ z. document_streamed x false [] z ∙ ap (λ m. with_said false [] (said_of m) (stream_said [] z)) a.is ∙ moved a.comments a.content a.meaning (stream_said [] z);
  }

-- [202] and [205]
pub data SuffixOf (t : List ℕ) : ℕ → ℕ → List CommentValue → Type 0 where
  suffix_of : {i j : ℕ} {cs : List CommentValue} → is_three t i 46 ≡ true → LineEnd t (i + 3) j cs → SuffixOf t i j cs

suffix_begins : {t : List ℕ} {i j : ℕ} {cs : List CommentValue} → SuffixOf t i j cs → Begins t j
suffix_begins (suffix_of q l) = line_end_begins l

record SuffixesAre (t : List ℕ) (i j : ℕ) (y : List Token) : Type 0 where
  pub value : List CommentValue
  pub suffixes : Suffixes t i j value
  pub ends : Begins t j
  pub tokens : y ≡ notes value

suffixes_are : {t : List ℕ} {i k j : ℕ} {y : List Token} (cs : List CommentValue) → SuffixOf t i k cs → Chain (Noted (SuffixOf t)) k j y → SuffixesAre t i j (notes cs ++ y)
suffixes_are cs (suffix_of q l) done = record { value = cs; suffixes = last_suffix q l; ends = line_end_begins l; tokens = append-nil (notes cs) }
suffixes_are cs (suffix_of q l) (step (noted {x = ds} s) r) =
    let a = suffixes_are ds s r in
    record { value = cs ++ a.value; suffixes = more_suffixes q l a.suffixes; ends = a.ends; tokens = ap (λ z. notes cs ++ z) a.tokens ∙ sym (notes_append cs a.value) }

all_suffixes : {t : List ℕ} {i j : ℕ} {y : List Token} → Several (Noted (SuffixOf t)) i j y → SuffixesAre t i j y
all_suffixes (several (noted {x = cs} s) r) = suffixes_are cs s r

pub prefixes_noted : {t : List ℕ} {i j : ℕ} {y : List Token} → Chain (Noted (Prefixes t)) i j y → Noted (Prefixes t) i j y
prefixes_noted done = noted done
prefixes_noted {t} (step p r) = go p (prefixes_noted r) where
  go : {i h j : ℕ} {y z : List Token} → Noted (Prefixes t) i h y → Noted (Prefixes t) h j z → Noted (Prefixes t) i j (y ++ z)
  go {i} {j = j} (noted {x = cs} p) (noted {x = ds} r) = subst (λ v. Noted (Prefixes t) i j v) (notes_append cs ds) (noted (chain_append p r))

-- [211]: a round of the last star
abbrev pub SuffixRound : List ℕ → ℕ → ℕ → ℕ → List Token → Type 0
SuffixRound t e = Then (Several (Noted (SuffixOf t))) (Then (Chain (Noted (Prefixes t))) (Perhaps (AnySaid t e)))

pub part_of_mark : {t : List ℕ} {i j : ℕ} {y : List Token} → Character t no_tokens c-byte-order-mark i j y → PrefixPart t i j [] × (y ≡ [])
unfolding c-byte-order-mark x
part_of_mark {t} (character {i = i} e) = (order_mark (eqb-true (code t i) 0xFEFF e), refl)

abbrev pub RoundSaid : List ℕ → ℕ → ℕ → ℕ → List Token → Type 0
RoundSaid t e = Either (SuffixRound t e) (Either (Character t no_tokens c-byte-order-mark) (Either (Noted (CommentLine t)) (ExplicitSaid t e)))

-- the rest of a stream
record RestIs (t : List ℕ) (e i : ℕ) (y : List Token) : Type 0 where
  pub height : ℕ
  pub value : Documents
  pub derived : StreamRest t height i value
  pub fits : height ≤ e
  pub says : stream_said [] y ≡ documents_said value

past_notes : {t : List ℕ} {e i k : ℕ} {y : List Token} (cs : List CommentValue) → (r : RestIs t e k y) → StreamRest t r.height i (with_comments cs r.value) → RestIs t e i (notes cs ++ y)
unfolding with_comments
past_notes {y = y} cs r d = record {
  height = r.height;
  value = with_comments cs r.value;
  derived = d;
  fits = r.fits;
  says = notes_streamed [] cs y ∙ ap (λ s. with_stream cs s) r.says ∙ same_stream refl (sym (notes_of_append cs r.value.comments));
}

module _ {t : List ℕ} {e : ℕ} (u : IsUtf8 t) where
  -- comments, a document after them, and the rest
  document_said_after : {m h : ℕ} {x : List Token} (y : List Token) (cs : List CommentValue) (f : DocumentIs t e m h x) (rest : Documents) → stream_said [] y ≡ documents_said rest
      → stream_said [] (notes cs ++ (x ++ y)) ≡ documents_said (with_document (cs ++ (f.before ++ f.comments)) f.value rest)
  unfolding with_document
  document_said_after {x = x} y cs f rest r =
      notes_streamed [] cs (x ++ y) ∙ ap (λ s. with_stream cs s) (f.says y ∙ ap (λ s. with_value f.value (f.before ++ f.comments) s) r)
      ∙ same_stream refl (comments_joined cs (f.before ++ f.comments) (notes_of rest.comments) ∙ sym (notes_of_append (cs ++ (f.before ++ f.comments)) rest.comments))

  suffix_parts : {i k m h : ℕ} {v w x y : List Token} → SuffixesAre t i k v → Noted (Prefixes t) k m w → Perhaps (AnySaid t e) m h x → (Begins t h → RestIs t e h y)
      → RestIs t e i ((v ++ (w ++ x)) ++ y)
  suffix_parts {i} {v = v} {y = y} a (noted {x = ds} p) missing rest =
      let r = rest (parts_begin a.ends p) in
      subst (λ z. RestIs t e i z) (ap (λ z. z ++ y) (notes_append a.value ds ∙ ap (λ z. z ++ notes ds) (sym a.tokens) ∙ ap (λ z. v ++ z) (sym (append-nil (notes ds)))))
      (past_notes (a.value ++ ds) r (past_suffixes a.suffixes p r.derived))
  suffix_parts {v = v} {x = x} {y = y} a (noted {x = ds} p) (given d) rest =
      let r = rest (any_ends d) in
      let f = document_is u (parts_begin a.ends p) (begins_within u (any_ends d)) d in
      let g = f.fits in
      let o = r.fits in
      let moved : ((a.value ++ ds) ++ (f.before ++ f.comments)) ≡ (a.value ++ ((ds ++ f.before) ++ f.comments)) =
      append_assoc a.value ds (f.before ++ f.comments) ∙ ap (λ z. a.value ++ z) (sym (append_assoc ds f.before f.comments)) in
      let same : ((v ++ (notes ds ++ x)) ++ y) ≡ (notes (a.value ++ ds) ++ (x ++ y)) =
      ap (λ z. (z ++ (notes ds ++ x)) ++ y) a.tokens ∙ ap (λ z. z ++ y) (sym (append_assoc (notes a.value) (notes ds) x) ∙ ap (λ z. z ++ x) (sym (notes_append a.value ds))) ∙ append_assoc (notes (a.value ++ ds)) x y in
      record {
        height = _;
        value = with_document (a.value ++ ((ds ++ f.before) ++ f.comments)) f.value r.value;
        derived = past_suffixes_and_document a.suffixes (chain_append p f.prefixes) f.derived r.derived;
        fits = omega (arith, g, o);
        says = ap (λ z. stream_said [] z) same ∙ document_said_after y (a.value ++ ds) f r.value r.says ∙ ap (λ z. documents_said (with_document z f.value r.value)) moved;
      }

  suffix_round : {i h : ℕ} {x y : List Token} → SuffixRound t e i h x → (Begins t h → RestIs t e h y) → RestIs t e i (x ++ y)
  suffix_round (both f (both p d)) rest = suffix_parts (all_suffixes f) (prefixes_noted p) d rest

  explicit_round : {i h : ℕ} {x y : List Token} → ExplicitSaid t e i h x → RestIs t e h y → RestIs t e i (x ++ y)
  unfolding with_document document_of
  explicit_round {i} {y = y} (explicit_said {x = m} n l) r =
      let o = r.fits in record {
        height = _;
        value = with_document m.comments (document_of i true [] m) r.value;
        derived = past_explicit n r.derived;
        fits = omega (arith, l, o);
        says = document_streamed m true [] y ∙ ap (λ s. with_said true [] (said_of m) s) r.says ∙ same_stream refl (sym (notes_of_append m.comments r.value.comments));
      }

  mark_round : {i h : ℕ} {x y : List Token} → PrefixPart t i h [] × (x ≡ []) → RestIs t e h y → RestIs t e i (x ++ y)
  mark_round {i} {y = y} p r = subst (λ z. RestIs t e i (z ++ y)) (sym p.1) (past_notes [] r (past_prefix p.0 r.derived))

  rest_is : {i z : ℕ} {y : List Token} → Begins t i → z ≡ length t → Chain (RoundSaid t e) i z y → RestIs t e i y
  unfolding stream_said
  rest_is b q done = subst (λ z. RestIs t e z []) (sym q) (record { height = 0; value = _; derived = stream_ended; fits = omega arith; says = refl })
  rest_is b q (step (left r) s) = suffix_round r (λ c. rest_is c q s)
  rest_is b q (step (right (left m)) s) = let p = part_of_mark m in mark_round p (rest_is (part_begins b p.0) q s)
  rest_is b q (step (right (right (left (noted {x = cs} c)))) s) = let r = rest_is (line_begins c) q s in past_notes cs r (past_prefix (prefix_comment c) r.derived)
  rest_is b q (step (right (right (right n))) s) = explicit_round n (rest_is (explicit_begins n) q s)

-- all of a stream
pub record StreamIs (t : List ℕ) (e : ℕ) (y : List Token) : Type 0 where
  pub height : ℕ
  pub value : Documents
  pub derived : Stream t height value
  pub fits : height ≤ e
  pub says : stream_said [] y ≡ documents_said value

abbrev pub StreamForm : List ℕ → ℕ → ℕ → ℕ → List Token → Type 0
StreamForm t e = Then (Chain (Noted (Prefixes t))) (Then (Perhaps (AnySaid t e)) (Chain (RoundSaid t e)))

without_first : {t : List ℕ} {e i : ℕ} {y : List Token} (cs : List CommentValue) → Prefixes t 0 i cs → RestIs t e i y → StreamIs t e (notes cs ++ y)
unfolding with_comments
without_first {y = y} cs p r = record {
  height = r.height;
  value = with_comments cs r.value;
  derived = without_document p r.derived;
  fits = r.fits;
  says = notes_streamed [] cs y ∙ ap (λ s. with_stream cs s) r.says ∙ same_stream refl (sym (notes_of_append cs r.value.comments));
}

pub stream_is : {t : List ℕ} {e z : ℕ} {y : List Token} → IsUtf8 t → z ≡ length t → StreamForm t e 0 z y → StreamIs t e y
stream_is {t} {e} {z} u q (both p (both d s)) = go (prefixes_noted p) d (λ c. rest_is u c q s) where
  go : {i j : ℕ} {v w x : List Token} → Noted (Prefixes t) 0 i v → Perhaps (AnySaid t e) i j w → (Begins t j → RestIs t e j x) → StreamIs t e (v ++ (w ++ x))
  go (noted {x = cs} p) missing rest = without_first cs p (rest (parts_begin (inl at_text) p))
  go {w = w} {x = x} (noted {x = cs} p) (given d) rest =
      let r = rest (any_ends d) in
      let f = document_is u (parts_begin (inl at_text) p) (begins_within u (any_ends d)) d in
      let g = f.fits in
      let o = r.fits in
      record {
        height = _;
        value = with_document ((cs ++ f.before) ++ f.comments) f.value r.value;
        derived = begins_with_document (chain_append p f.prefixes) f.derived r.derived;
        fits = omega (arith, g, o);
        says = document_said_after u x cs f r.value r.says ∙ ap (λ z. documents_said (with_document z f.value r.value)) (sym (append_assoc cs f.before f.comments));
      }
