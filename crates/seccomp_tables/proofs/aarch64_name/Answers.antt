use Rattle.std.proofs.Common.{[], arith, sym, ◌∙◌}
use Rattle.seccomp_tables.specs.Tables.{words, aarch64_pairs}
use Rattle.seccomp_tables.specs.declared.aarch64.TheConstants.{AARCH64_NAMES, AARCH64_NUMBERS}
use Rattle.seccomp_tables.proofs.TableFacts.{name_at, aarch64_starts}
use Rattle.seccomp_tables.proofs.aarch64_name.Goals as goal

pub word_at-requires-clause-starts : goal.word_at-requires-clause-starts
word_at-requires-clause-starts c = aarch64_starts

pub word_at-requires-clause-within : goal.word_at-requires-clause-within
unfolding aarch64_pairs
word_at-requires-clause-within c = c.requires

pub returns : goal.returns
unfolding aarch64_pairs
returns c pair =
    c.word_at.ensures [] ∙ sym (name_at (words AARCH64_NAMES.now) AARCH64_NUMBERS c.args.place [] pair c.requires (omega arith))
