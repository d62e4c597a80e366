-- What an answer says determines it: `told` loses nothing, so the contract of a step leaves one answer, one state and one count. Assumes nothing.
use mathlib.Core.Path.{◌≡◌, refl, ap}
use Rattle.refusal.proofs.Numbered.{refusal_of, refusal_back}
use Rattle.refusal.proofs.Unique.{one_each}
use Rattle.numbers.specs.Strings.{part_from}
use Rattle.trie.specs.Call.{Answer, export, more, end, refused, Reply}
use Rattle.nodes.specs.Exported.{Target, regular, reexport, stub_and_resolver, Exported, target_told}
use Rattle.trie.specs.Told.{answer_told, told}
use Rattle.trie.specs.declared.TrieAnswer.{TrieAnswer}
use Rattle.trie.specs.declared.TrieAnswer.TheVariants as answer
use Rattle.trie.specs.declared.TrieStep.{TrieStep}
use Rattle.nodes.specs.declared.export.Export.{Export}
use Rattle.nodes.specs.declared.export.ExportData.{ExportData}
use Rattle.nodes.specs.declared.export.ExportData.TheVariants.{Regular, Reexport, StubAndResolver}

abbrev target_of : Target → ExportData
target_of (regular address) = Regular address
target_of (reexport ordinal place len) = Reexport (record { ordinal = ordinal; name = part_from place len })
target_of (stub_and_resolver stub resolver) = StubAndResolver stub resolver

abbrev export_of : Exported → Export
export_of x = record { flags = x.flags; target = target_of x.target }

abbrev answer_of : Answer → TrieAnswer
answer_of (export len x) = answer.Export len (export_of x)
answer_of more = answer.More
answer_of end = answer.End
answer_of (refused n) = answer.Refused (refusal_of n)

abbrev step_of : Reply → TrieStep
step_of r = record { answer = answer_of r.answer; walk = r.walk; visits = r.visits }

target_back : (x : ExportData) → target_of (target_told x) ≡ x
target_back (Regular address) = refl
target_back (Reexport import) = refl
target_back (StubAndResolver stub resolver) = refl

answer_back : (a : TrieAnswer) → answer_of (answer_told a) ≡ a
answer_back (answer.Export len x) = λ i. answer.Export len (record { flags = x.flags; target = target_back x.target i })
answer_back answer.More = refl
answer_back answer.End = refl
answer_back (answer.Refused e) = ap answer.Refused (refusal_back e)

step_back : (r : TrieStep) → step_of (told r) ≡ r
step_back r = λ i. record { answer = answer_back r.answer i; walk = r.walk; visits = r.visits }

pub told_one : (r q : TrieStep) → told r ≡ told q → r ≡ q
told_one = one_each told step_of step_back
