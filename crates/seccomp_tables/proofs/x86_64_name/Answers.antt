use Rattle.std.proofs.Common.{[], arith, sym, ◌∙◌}
use Rattle.seccomp_tables.specs.Tables.{words, x86_64_pairs}
use Rattle.seccomp_tables.specs.declared.x86_64.TheConstants.{X86_64_NAMES, X86_64_NUMBERS}
use Rattle.seccomp_tables.proofs.TableFacts.{name_at, x86_64_starts}
use Rattle.seccomp_tables.proofs.x86_64_name.Goals as goal

pub word_at-requires-clause-starts : goal.word_at-requires-clause-starts
word_at-requires-clause-starts c = x86_64_starts

pub word_at-requires-clause-within : goal.word_at-requires-clause-within
unfolding x86_64_pairs
word_at-requires-clause-within c = c.requires

pub returns : goal.returns
unfolding x86_64_pairs
returns c pair =
    c.word_at.ensures [] ∙ sym (name_at (words X86_64_NAMES.now) X86_64_NUMBERS c.args.place [] pair c.requires (omega arith))
