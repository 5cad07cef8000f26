use Rattle.std.proofs.Common.{[], arith, sym, ◌∙◌}
use Rattle.seccomp_tables.specs.Tables.{words, riscv64_pairs}
use Rattle.seccomp_tables.specs.declared.riscv64.TheConstants.{RISCV64_NAMES, RISCV64_NUMBERS}
use Rattle.seccomp_tables.proofs.TableFacts.{name_at, riscv64_starts}
use Rattle.seccomp_tables.proofs.riscv64_name.Goals as goal

pub word_at-requires-clause-starts : goal.word_at-requires-clause-starts
word_at-requires-clause-starts c = riscv64_starts

pub word_at-requires-clause-within : goal.word_at-requires-clause-within
unfolding riscv64_pairs
word_at-requires-clause-within c = c.requires

pub returns : goal.returns
unfolding riscv64_pairs
returns c pair =
    c.word_at.ensures [] ∙ sym (name_at (words RISCV64_NAMES.now) RISCV64_NUMBERS c.args.place [] pair c.requires (omega arith))
