use Rattle.std.proofs.Common.{◌∙◌, ◌++◌, None, ap, map}
use Rattle.std.specs.Prelude.{flat_map}
use Rattle.yf_comments.specs.Comment.{comment_value}
use Rattle.yf_problems.specs.Folds.{comment_parts, document_parts}
use Rattle.yf_problems.proofs.folds.parts_in.Goals as goal

pub returns : goal.returns
returns c =
    let t = c.args.text.now in
    let values = map comment_value c.comments.result.now in
    record {
      reading = c.args.reading.now;
      reads = c.requires;
      are = λ trees w. c.in_ok-push_comments.ensures
          ∙ ap (λ ps. ps ++ comment_parts t None values) (c.in_ok-parts.ensures trees w)
          ∙ ap (λ cs. flat_map (document_parts t) trees ++ comment_parts t None cs) c.comments.ensures;
    }
