-- The parameters of a TAG directive as a reader finds them: as far as they go, or none.
use Rattle.std.proofs.Common.{◌≡◌, ℕ, ◌+◌, ◌<◌, ◌≤◌, true, false, ⊎_elim, List, [], ◌∷◌, slice_range, codes, refl, sym, ap, ◌∙◌, subst, arith, true≢false}
use Rattle.std.proofs.lemmas.Bool.{cases_lt}
use Rattle.std.specs.Str.{IsUtf8}
use Rattle.yf_chars.specs.Text.{code}
use Rattle.yf_chars.specs.Class.{is_uri_char, is_white, is_word_char}
use Rattle.yf_chars.specs.Chain.{Chain, Chosen, Many, Stuck}
use Rattle.yf_chars.specs.Chain.Chain.{done, step}
use Rattle.yf_chars.proofs.ChainLemmas.{chain_forward, chain_meet, Meets, one_functional}
use Rattle.yf_chars.proofs.ChainLemmas.Meets.{goes_on, falls_short}
use Rattle.yf_lines.specs.Basic.{LineStart, SeparateInLine}
use Rattle.yf_comments.specs.Comment.{CommentValue}
use Rattle.yf_comments.specs.Comments.{LineEnd}
use Rattle.yf_comments.proofs.RowLemmas.{no_separation}
use Rattle.yf_props.specs.Names.{Handle, TagPrefix, UriChar}
use Rattle.yf_props.specs.Names.Handle.{primary_handle, secondary_handle, named_handle}
use Rattle.yf_props.specs.Names.TagPrefix.{local_prefix, global_prefix}
use Rattle.yf_props.proofs.NameLemmas.{run_unique}
use Rattle.yf_props.proofs.SolidLemmas.{uri_solid}
use Rattle.yf_props.proofs.TagLemmas.{percent_uri, spelled_functional, tag_functional}
use Rattle.yf_grammar.proofs.Ends.BlankRuns.{ContentBefore}
use Rattle.yf_grammar.proofs.FlowReader.FlowStarts.{no_end_there}
use Rattle.yf_stream.specs.Stream.{Parameters}
use Rattle.yf_stream.specs.Stream.Parameters.{version_parameter, tag_parameters, reserved_parameters}
use Rattle.yf_stream.proofs.Reader.DirectiveWords.{same_start}
use Rattle.yf_stream.proofs.Uniqueness.OneDirective.{byte_no_white, chain_after, handle_after, handle_one, in_line_one, mark_after, no_ns_white, no_tag_at_mark, prefix_ns, spelled_ns, tag_after, white_after, word_mark, word_white, yaml_no_tag}

-- the parameters
record TagWords (t : List ℕ) (i j : ℕ) (x : List (List ℕ)) : Type 0 where
  start : ℕ
  handle_end : ℕ
  prefix : ℕ
  text : List ℕ
  separate : SeparateInLine t i start
  handle : Handle t start handle_end
  gap : SeparateInLine t handle_end prefix
  prefixed : TagPrefix t prefix j text
  is : x ≡ slice_range t start handle_end ∷ slice_range t prefix j ∷ []

tag_of : {t name : List ℕ} {i j : ℕ} {x : List (List ℕ)} → name ≡ codes "TAG" → Parameters t name i j x → TagWords t i j x
tag_of e (version_parameter f s a q b) = absurd (yaml_no_tag (sym f ∙ e))
tag_of e (tag_parameters {k = k} {h = h} {p = p} {x = x} f s a q b) =
    record { start = k; handle_end = h; prefix = p; text = x; separate = s; handle = a; gap = q; prefixed = b; is = refl }
tag_of e (reserved_parameters f g c) = absurd (g e)

module _ {t : List ℕ} (u : IsUtf8 t) where
  no_parameter : {i : ℕ} → ((j : ℕ) (x : List (List ℕ)) → TagWords t i j x → ⊥) → Stuck (Parameters t (codes "TAG") i)
  no_parameter n = record { none = λ j x p. n j x (tag_of refl p) }

  pub unseparated_tag : {i : ℕ} → is_white (code t i) ≡ false → (LineStart t i → ⊥) → Stuck (Parameters t (codes "TAG") i)
  unseparated_tag e n = no_parameter (λ j x v. no_separation e n v.separate)

  handle_no_white : {k g : ℕ} → Handle t k g → is_white (code t k) ≡ false
  handle_no_white {k} (primary_handle e) = byte_no_white u k e (omega arith) (omega arith)
  handle_no_white {k} (secondary_handle e f) = byte_no_white u k e (omega arith) (omega arith)
  handle_no_white {k} (named_handle e r f) = byte_no_white u k e (omega arith) (omega arith)

  -- a handle goes on if a longer one is derived
  goes_on_there : {k g h : ℕ} → Handle t k g → Handle t k h → g < h → is_white (code t g) ≡ false
  goes_on_there (primary_handle a) (primary_handle b) l = absurd (omega arith)
  goes_on_there {k} (primary_handle a) (secondary_handle b c) l = byte_no_white u (k + 1) c (omega arith) (omega arith)
  goes_on_there (primary_handle a) (named_handle b r c) l = word_white u r
  goes_on_there (secondary_handle a b) (primary_handle c) l = absurd (omega arith)
  goes_on_there (secondary_handle a b) (secondary_handle c d) l = absurd (omega arith)
  goes_on_there (secondary_handle a b) (named_handle c r d) l = absurd (word_mark u r b)
  goes_on_there (named_handle a r b) (primary_handle c) l = let m = r.some in absurd (omega arith)
  goes_on_there (named_handle a r b) (secondary_handle c d) l = absurd (word_mark u r d)
  goes_on_there (named_handle {j = j} a r b) (named_handle {j = k} c s d) l =
      let same : j ≡ k = run_unique (one_functional t is_word_char) r s in absurd (omega arith)

  module _ {i k : ℕ} {w : List ℕ} (m : Many t is_white i k w) (e : is_white (code t k) ≡ false) where
    handle_there : {j : ℕ} {x : List (List ℕ)} (v : TagWords t i j x) → Handle t k v.handle_end
    handle_there v = subst (λ z. Handle t z v.handle_end) (same_start m e v.separate (handle_no_white v.handle)) v.handle

    pub no_handle_there : ((g : ℕ) → Handle t k g → ⊥) → Stuck (Parameters t (codes "TAG") i)
    no_handle_there n = no_parameter (λ j x v. n v.handle_end (handle_there v))

    module _ {h : ℕ} (a : Handle t k h) (longest : (g : ℕ) → Handle t k g → g ≤ h) where
      white_there : {j : ℕ} {x : List (List ℕ)} (v : TagWords t i j x) → is_white (code t v.handle_end) ≡ true
      white_there v = white_after u (handle_after u v.handle) v.gap

      same_handle : {j : ℕ} {x : List (List ℕ)} (v : TagWords t i j x) → v.handle_end ≡ h
      same_handle v =
          let b = handle_there v in
          let within = longest v.handle_end b in
          ⊎_elim (λ (l : v.handle_end < h). absurd (true≢false (sym (white_there v) ∙ goes_on_there b a l))) (λ (l : h ≤ v.handle_end). omega arith)
          (cases_lt v.handle_end h)

      pub no_gap_there : is_white (code t h) ≡ false → Stuck (Parameters t (codes "TAG") i)
      no_gap_there f = no_parameter (λ j x v. true≢false (sym (white_there v) ∙ ap (λ z. is_white (code t z)) (same_handle v) ∙ f))

      module _ {p : ℕ} {y : List ℕ} (n : Many t is_white h p y) (f : is_white (code t p) ≡ false) where
        same_prefix : {j : ℕ} {x : List (List ℕ)} (v : TagWords t i j x) → v.prefix ≡ p
        same_prefix v =
            same_start n f (subst (λ z. SeparateInLine t z v.prefix) (same_handle v) v.gap) (no_ns_white u v.prefix (prefix_ns u v.prefixed))

        prefix_there : {j : ℕ} {x : List (List ℕ)} (v : TagWords t i j x) → TagPrefix t p j v.text
        prefix_there {j} v = subst (λ z. TagPrefix t z j v.text) (same_prefix v) v.prefixed

        pub no_prefix_there : Stuck (TagPrefix t p) → Stuck (Parameters t (codes "TAG") i)
        no_prefix_there s = no_parameter (λ j x v. s.none j v.text (prefix_there v))

        pub tag_chosen : {j : ℕ} {x : List ℕ} → SeparateInLine t i k → SeparateInLine t h p → Chosen (TagPrefix t p) j x
            → Chosen (Parameters t (codes "TAG") i) j (slice_range t k h ∷ slice_range t p j ∷ [])
        tag_chosen {j} s q c = record {
          derived = tag_parameters refl s a q c.derived;
          longest = λ l z d. let v = tag_of refl d in c.longest l v.text (prefix_there v);
          only = λ z d.
              let v = tag_of refl d in
              v.is ∙ ap (λ w. slice_range t w v.handle_end ∷ slice_range t v.prefix j ∷ []) (same_start m e v.separate (handle_no_white v.handle))
              ∙ ap (λ w. slice_range t k w ∷ slice_range t v.prefix j ∷ []) (same_handle v)
              ∙ ap (λ w. slice_range t k h ∷ slice_range t w j ∷ []) (same_prefix v);
        }

  -- a prefix before the end of a line is the longest one
  uris_end : {i j k n : ℕ} {x y : List ℕ} {b : List CommentValue} → ContentBefore t i → Chain (UriChar t) i j x → Chain (UriChar t) i k y → k ≤ j → LineEnd t k n b → k ≡ j
  uris_end {i} {j} {k} {n} {x} {y} {b} o c d l e = go (chain_meet (spelled_functional t is_uri_char percent_uri) c d) where
    stays : {k j : ℕ} {z : List ℕ} → ContentBefore t k → LineEnd t k n b → Chain (UriChar t) k j z → k ≡ j
    stays o w done = refl
    stays o w (step s r) = absurd (no_end_there u o (spelled_ns u uri_solid s) w)

    go : Meets (UriChar t) j k x y → k ≡ j
    go (goes_on z r q) = let f = chain_forward (spelled_functional t is_uri_char percent_uri) r in omega arith
    go (falls_short z r q) = stays (chain_after u uri_solid d o) e r

  pub prefix_end : {p j k n : ℕ} {x y : List ℕ} {b : List CommentValue} → TagPrefix t p j x → TagPrefix t p k y → k ≤ j → LineEnd t k n b → k ≡ j
  prefix_end {p} (local_prefix e c) (local_prefix f d) l w = uris_end (mark_after u p e) c d l w
  prefix_end (local_prefix e c) (global_prefix s d) l w = absurd (no_tag_at_mark u e s)
  prefix_end (global_prefix s c) (local_prefix e d) l w = absurd (no_tag_at_mark u e s)
  prefix_end {k = k} (global_prefix s c) (global_prefix {x = y} r d) l w =
      uris_end (tag_after u s) c (subst (λ z. Chain (UriChar t) z k y) (tag_functional.one_end r s) d) l w

  pub tag_end : {name : List ℕ} {i j k n : ℕ} {x y : List (List ℕ)} {b : List CommentValue} → name ≡ codes "TAG" → Parameters t name i j x → Parameters t name i k y → k ≤ j
      → LineEnd t k n b → k ≡ j
  tag_end {j = j} {k = k} e c d l w =
      let v = tag_of e c in
      let o = tag_of e d in
      let first = in_line_one u v.separate (handle_no_white v.handle) o.separate (handle_no_white o.handle) in
      let handle : Handle t v.start o.handle_end = subst (λ z. Handle t z o.handle_end) (sym first) o.handle in
      let second = handle_one u v.handle (white_after u (handle_after u v.handle) v.gap) handle (white_after u (handle_after u handle) o.gap) in
      let gap : SeparateInLine t v.handle_end o.prefix = subst (λ z. SeparateInLine t z o.prefix) (sym second) o.gap in
      let third = in_line_one u v.gap (no_ns_white u v.prefix (prefix_ns u v.prefixed)) gap (no_ns_white u o.prefix (prefix_ns u o.prefixed)) in
      prefix_end v.prefixed (subst (λ z. TagPrefix t z k o.text) (sym third) o.prefixed) l w
