use Rattle.std.proofs.Common.{◌+◌, ◌*◌, ◌<◌, ◌^◌, ◌∷◌, map}
use Rattle.seccomp_compare.specs.Cover.{open_bits}
use Rattle.seccomp_compare.proofs.SetsLeft.{AreLeft, total}
use Rattle.seccomp_compare.proofs.covered.cover_of.Given as goal

-- no call is lost, and so many sets at most are still to come
abbrev pub invariant-loop-looked : goal.invariant-loop-looked
invariant-loop-looked l = record {
  left : AreLeft l.arch l.number l.own (map (λ q. q.now) l.others) l.left.items;
  room : l.looked + total (l.own ∷ map (λ q. q.now) l.others) l.left.items
      < 2 * 2 ^ open_bits l.own (l.own ∷ map (λ q. q.now) l.others);
}
