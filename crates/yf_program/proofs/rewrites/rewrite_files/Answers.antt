use Rattle.std.proofs.Common.{◌≡◌, ◌≢◌, ◌∙◌, [], ℕ, List, length, rules, sym}
use Rattle.std.proofs.lemmas.Bool.{eqb-true}
use Rattle.std.proofs.lemmas.List.{nil_from_length}
use Rattle.std.specs.Prelude.{map, vec_len}
use Rattle.yf_command_line.specs.declared.command.Input.TheVariants.{File}
use Rattle.yf_program.specs.Answer.{ScopedRewrite, host_in}
use Rattle.yf_host.specs.Rewriting.{claim_of}
use Rattle.yf_program.proofs.AnswerLemmas.{each_of, named_of, no_files, one_of, rewritten_by, some_files}
use Rattle.yf_program.proofs.rewrites.rewrite_files.Goals as goal

pub returns-then-is_named : goal.returns-then-is_named
returns-then-is_named g c =
    named_of c.args.scope.now (ScopedRewrite (host_in g.I.Inputs.claim g.S.FileSystem.tells g.S.FileSystem.state g.S.Links.leads c.args.sources.now) c.args.scope.now c.args.explain (claim_of c.args.new_text.now)) _ _ c.rewrite_each.result (File c.args.files.now.first) (map (λ (name : List ℕ). File name) c.args.files.now.rest.items)
    c.if-is_named.true c.rewrite_each.ensures

pub returns-then-is_empty : goal.returns-then-is_empty
returns-then-is_empty g c =
    let count : vec_len c.args.files.now.rest ≡ 0 = eqb-true (vec_len c.args.files.now.rest) 0 (sym c.is_empty.ensures ∙ c.if-is_empty.true) in
    let same : vec_len c.args.files.now.rest ≡ length c.args.files.now.rest.items = search rules in
    let none : c.args.files.now.rest.items ≡ [] = nil_from_length c.args.files.now.rest.items (sym same ∙ count) in
    one_of c.args.scope.now (ScopedRewrite (host_in g.I.Inputs.claim g.S.FileSystem.tells g.S.FileSystem.state g.S.Links.leads c.args.sources.now) c.args.scope.now c.args.explain (claim_of c.args.new_text.now)) _ _ c.rewrite_scoped.result (File c.args.files.now.first) (map (λ (name : List ℕ). File name) c.args.files.now.rest.items) c.if-is_named.false (no_files c.args.files.now.rest.items none)
    (rewritten_by (host_in g.I.Inputs.claim g.S.FileSystem.tells g.S.FileSystem.state g.S.Links.leads c.args.sources.now) c.args.scope.now c.args.explain (claim_of c.args.new_text.now) c.rewrite_scoped.result _ _ c.as_str-name.result.now c.args.files.now.first c.as_str-name.ensures c.rewrite_scoped.ensures.does)

pub returns : goal.returns
returns g c =
    let several : c.args.files.now.rest.items ≢ [] = λ none. search rules in
    each_of c.args.scope.now (ScopedRewrite (host_in g.I.Inputs.claim g.S.FileSystem.tells g.S.FileSystem.state g.S.Links.leads c.args.sources.now) c.args.scope.now c.args.explain (claim_of c.args.new_text.now)) _ _ c.rewrite_each-2.result (File c.args.files.now.first) (map (λ (name : List ℕ). File name) c.args.files.now.rest.items)
    (some_files c.args.files.now.rest.items several) c.rewrite_each-2.ensures
