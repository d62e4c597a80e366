-- What the code's values say.
use Rattle.nodes.specs.Exported.{export_told}
use Rattle.refusal.specs.Numbers.{number_of}
use Rattle.trie.specs.Call.{Answer, export, more, end, refused, Reply}
use Rattle.trie.specs.declared.TrieAnswer.{TrieAnswer}
use Rattle.trie.specs.declared.TrieAnswer.TheVariants as answer
use Rattle.trie.specs.declared.TrieStep.{TrieStep}

abbrev pub answer_told : TrieAnswer → Answer
answer_told (answer.Export len x) = export len (export_told x)
answer_told answer.More = more
answer_told answer.End = end
answer_told (answer.Refused e) = refused (number_of e)

abbrev pub told : TrieStep → Reply
told r = record { answer = answer_told r.answer; walk = r.walk; visits = r.visits }
