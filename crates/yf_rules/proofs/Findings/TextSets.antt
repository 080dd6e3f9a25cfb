-- In the reading of a text the sets that depend on trees are exact (`SetsOfTextsAreExact`).
use Rattle.yf_laws.specs.Laws.{ReadingsAreOfTexts}
use Rattle.yf_rules.specs.TreeSets.{SetsOfTextsAreExact}

pub sets_of_texts_are_exact : ReadingsAreOfTexts → SetsOfTextsAreExact
sets_of_texts_are_exact laws src reading style utf8 reads =
    let w = (laws src.text reading utf8 reads).textual in
    record {
      trees = w.trees;
      of_reading = w.of_reading;
      indentation = λ offsets at. at w.trees w.of_reading;
      flow_layout = λ offsets at. at w.trees w.of_reading w.comments;
      repeated_keys = λ offsets at. at w.trees w.of_reading;
      key_mark = λ offsets at. at w;
    }
