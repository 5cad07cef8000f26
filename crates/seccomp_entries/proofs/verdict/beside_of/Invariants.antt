use Rattle.std.proofs.Common.{map}
use Rattle.std.specs.Prelude.{All}
use Rattle.seccomp_compare.specs.Cover.{Covers}
use Rattle.seccomp_entries.specs.Verdicts.{IsRuleBeside}
use Rattle.seccomp_entries.proofs.verdict.beside_of.Given as goal

-- the few are rules of other entries, and the answer is true beside these
abbrev pub invariant-loop : goal.invariant-loop
invariant-loop l = record {
  few : All (IsRuleBeside l.entries l.place l.own.number) (map (λ q. q.now) l.few.items);
  says : Covers l.arch l.own.number l.own.conditions (map (λ q. q.now) l.few.items) l.most l.answer;
}
