-- Directives are in order, each before the one after it.
use Rattle.std.proofs.Common.{ℕ, ◌≤◌, List, [], ◌∷◌, ◌++◌, arith}
use Rattle.yf_chars.specs.Chain.{Chain}
use Rattle.yf_chars.specs.Chain.Chain.{done, step}
use Rattle.yf_chars.specs.Class.{is_uri_char}
use Rattle.yf_chars.proofs.ChainLemmas.{chain_forward}
use Rattle.yf_props.specs.Names.{Handle, TagPrefix}
use Rattle.yf_props.specs.Names.Handle.{primary_handle, secondary_handle, named_handle}
use Rattle.yf_props.specs.Names.TagPrefix.{local_prefix, global_prefix}
use Rattle.yf_props.proofs.TagLemmas.{percent_uri, spelled_functional, tag_functional}
use Rattle.yf_events.specs.declared.directive.Directive.{Directive}
use Rattle.yf_grammar.proofs.Ends.Forward.{in_line_forward}
use Rattle.yf_stream.specs.Stream.{DirectiveLines, Directives, Parameters, ReservedParameter}
use Rattle.yf_stream.specs.Stream.DirectiveLines.{last_directive, more_directives}
use Rattle.yf_stream.specs.Stream.Parameters.{version_parameter, tag_parameters, reserved_parameters}
use Rattle.yf_stream.specs.Stream.ReservedParameter.{reserved_parameter}
use Rattle.yf_stream.proofs.Uniqueness.Forward.{line_end_forward}

-- directives in order, from one offset to another
pub data DirectivesStand : ℕ → List Directive → ℕ → Type 0 where
  no_directives_stand : {i j : ℕ} → i ≤ j → DirectivesStand i [] j
  directive_is_at : {i j : ℕ} {d : Directive} {ds : List Directive} → i ≤ d.offset → DirectivesStand d.offset ds j → DirectivesStand i (d ∷ ds) j

pub directives_after : {h i j : ℕ} {ds : List Directive} → h ≤ i → DirectivesStand i ds j → DirectivesStand h ds j
directives_after l (no_directives_stand m) = no_directives_stand (omega arith)
directives_after l (directive_is_at m a) = directive_is_at (omega arith) a

pub directives_join : {i k j : ℕ} {ds es : List Directive} → DirectivesStand i ds k → DirectivesStand k es j → DirectivesStand i (ds ++ es) j
directives_join (no_directives_stand m) b = directives_after m b
directives_join (directive_is_at m a) b = directive_is_at m (directives_join a b)

pub directives_order : {i j : ℕ} {ds : List Directive} → DirectivesStand i ds j → i ≤ j
directives_order (no_directives_stand m) = m
directives_order (directive_is_at m a) = let l = directives_order a in omega arith

module _ {t : List ℕ} where
  handle_forward : {i h : ℕ} → Handle t i h → i ≤ h
  handle_forward (primary_handle a) = omega arith
  handle_forward (secondary_handle a b) = omega arith
  handle_forward (named_handle a r b) = let l = r.some in omega arith

  prefix_forward : {i j : ℕ} {x : List ℕ} → TagPrefix t i j x → i ≤ j
  prefix_forward (local_prefix e c) = let f = chain_forward (spelled_functional t is_uri_char percent_uri) c in omega arith
  prefix_forward (global_prefix s c) = let f = tag_functional.forward s in let g = chain_forward (spelled_functional t is_uri_char percent_uri) c in omega arith

  words_forward : {i j : ℕ} {x : List (List ℕ)} → Chain (ReservedParameter t) i j x → i ≤ j
  words_forward done = omega arith
  words_forward (step (reserved_parameter s n r) c) = let f = in_line_forward s in let l = r.some in let g = words_forward c in omega arith

  pub parameters_forward : {name : List ℕ} {i j : ℕ} {x : List (List ℕ)} → Parameters t name i j x → i ≤ j
  parameters_forward (version_parameter e s a q b) = let f = in_line_forward s in let g = a.some in let h = b.some in omega arith
  parameters_forward (tag_parameters e s a q b) =
      let f = in_line_forward s in let g = handle_forward a in let h = in_line_forward q in let k = prefix_forward b in omega arith
  parameters_forward (reserved_parameters e n c) = words_forward c

  pub directives_stand : {i j : ℕ} {x : Directives} → DirectiveLines t i j x → DirectivesStand i x.directives j
  directives_stand (last_directive e r p d) =
      let f = r.some in
      let g = parameters_forward p in
      let h = line_end_forward d in
      directive_is_at (omega arith) (no_directives_stand (omega arith))
  directives_stand (more_directives a b) = directives_join (directives_stand a) (directives_stand b)
