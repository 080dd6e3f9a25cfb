-- A stream is derived step by step: a derivation of the rest of the text extends to one with the part before it.
use Rattle.std.proofs.Common.{◌≡◌, ℕ, max, ◌+◌, Bool, true, false, List, [], ◌++◌, refl, sym, ap, ◌∙◌, subst, append_assoc, append-nil, true≢false}
use Rattle.yf_chars.specs.Chain.Chain.{done, step}
use Rattle.yf_chars.proofs.ChainLemmas.{chain_more}
use Rattle.yf_lines.specs.Basic.{is_three}
use Rattle.yf_comments.specs.Comment.{CommentValue}
use Rattle.yf_comments.specs.Comments.{LineEnd}
use Rattle.yf_grammar.specs.Productions.Meaning.{Meaning}
use Rattle.yf_stream.specs.Stream.{AnyDocument, Document, Documents, ExplicitNode, PrefixPart, Prefixes, Stream, StreamRest, Suffixes, document_of, with_comments, with_document}
use Rattle.yf_stream.specs.Stream.Stream.{begins_with_document, without_document}
use Rattle.yf_stream.specs.Stream.StreamRest.{past_explicit, past_prefix, past_suffixes, past_suffixes_and_document}
use Rattle.yf_stream.specs.Stream.Suffixes.{last_suffix}
use Rattle.yf_stream.proofs.Uniqueness.StreamPath.{before_document, comments_join, no_comments}

-- the rest of a stream from an offset on; the flag means that a document without `---` or with directives may be there
pub data StreamFrom (t : List ℕ) : Bool → ℕ → ℕ → Documents → Type 0 where
  as_rest : {b : Bool} {h k : ℕ} {x : Documents} → StreamRest t h k x → StreamFrom t b h k x
  any_document : {h g k j : ℕ} {cs : List CommentValue} {d : Document} {x : Documents} → AnyDocument t h k j d cs → StreamRest t g j x
      → StreamFrom t true (max h g) k (with_document cs d x)
  past_part : {b : Bool} {h k i : ℕ} {cs : List CommentValue} {x : Documents} → PrefixPart t k i cs → StreamFrom t b h i x
      → StreamFrom t b h k (with_comments cs x)

module _ {t : List ℕ} where
  -- after document prefixes
  pub from_prefixes : {b : Bool} {h k i : ℕ} {cs : List CommentValue} {x : Documents} → Prefixes t k i cs → StreamFrom t b h i x
      → StreamFrom t b h k (with_comments cs x)
  from_prefixes {b} {h} {k} {x = x} done r = subst (λ w. StreamFrom t b h k w) (sym (no_comments x)) r
  from_prefixes {b} {h} {k} {x = x} (step {x = cs} {y = ds} s p) r =
      subst (λ w. StreamFrom t b h k w) (comments_join cs ds x) (past_part s (from_prefixes p r))

  -- if no document without `---` may be there, it is the rest of a stream
  rest_if : {b : Bool} {h k : ℕ} {x : Documents} → b ≡ false → StreamFrom t b h k x → StreamRest t h k x
  rest_if e (as_rest r) = r
  rest_if e (any_document d r) = absurd (true≢false e)
  rest_if e (past_part s r) = past_prefix s (rest_if e r)

  -- after the lines of a `...`
  after_suffixes : {b : Bool} {h k j i : ℕ} {cs ds : List CommentValue} {x : Documents} → Suffixes t k j cs → Prefixes t j i ds → StreamFrom t b h i x
      → StreamRest t h k (with_comments (cs ++ ds) x)
  after_suffixes s p (as_rest r) = past_suffixes s p r
  after_suffixes {k = k} {cs = cs} {ds = ds} s p (any_document {h = h} {g = g} {cs = es} {d = d} {x = x} a r) =
      subst (λ w. StreamRest t (max h g) k w)
      (ap (λ w. with_document w d x) (sym (append_assoc cs ds es)) ∙ sym (before_document (cs ++ ds) es d x))
      (past_suffixes_and_document s p a r)
  after_suffixes {h = h} {k = k} {cs = cs} {ds = ds} s p (past_part {cs = es} {x = x} q r) =
      subst (λ w. StreamRest t h k w)
      (ap (λ w. with_comments w x) (sym (append_assoc cs ds es)) ∙ sym (comments_join (cs ++ ds) es x))
      (after_suffixes s (chain_more p q) r)

  pub from_suffix : {b : Bool} {h k j : ℕ} {cs : List CommentValue} {x : Documents} → is_three t k 46 ≡ true → LineEnd t (k + 3) j cs → StreamFrom t true h j x
      → StreamFrom t b h k (with_comments cs x)
  from_suffix {b} {h} {k} {cs = cs} {x = x} m d r =
      subst (λ w. StreamFrom t b h k (with_comments w x)) (append-nil cs) (as_rest (after_suffixes (last_suffix m d) done r))

  -- after a document that begins with `---`, and after any document if one may be there
  pub from_explicit : {b : Bool} {h g k j : ℕ} {x : Meaning} {rest : Documents} → ExplicitNode t h k j x → StreamFrom t false g j rest
      → StreamFrom t b (max h g) k (with_document x.comments (document_of k true [] x) rest)
  from_explicit e r = as_rest (past_explicit e (rest_if refl r))

  pub from_document : {h g k j : ℕ} {cs : List CommentValue} {d : Document} {rest : Documents} → AnyDocument t h k j d cs → StreamFrom t false g j rest
      → StreamFrom t true (max h g) k (with_document cs d rest)
  from_document d r = any_document d (rest_if refl r)

  -- the whole stream, from the beginning of the text on
  after_prefixes : {b : Bool} {h i : ℕ} {cs : List CommentValue} {x : Documents} → Prefixes t 0 i cs → StreamFrom t b h i x → Stream t h (with_comments cs x)
  after_prefixes p (as_rest r) = without_document p r
  after_prefixes {cs = cs} p (any_document {h = h} {g = g} {cs = es} {d = d} {x = x} a r) =
      subst (λ w. Stream t (max h g) w) (sym (before_document cs es d x)) (begins_with_document p a r)
  after_prefixes {h = h} {cs = cs} p (past_part {cs = es} {x = x} q r) =
      subst (λ w. Stream t h w) (sym (comments_join cs es x)) (after_prefixes (chain_more p q) r)

  pub stream_from_start : {b : Bool} {h : ℕ} {x : Documents} → StreamFrom t b h 0 x → Stream t h x
  stream_from_start {h = h} {x = x} r = subst (λ w. Stream t h w) (no_comments x) (after_prefixes done r)
