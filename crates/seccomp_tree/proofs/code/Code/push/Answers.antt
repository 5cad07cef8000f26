use Rattle.seccomp_tree.proofs.Common.{length, ◌+◌, ◌<◌, ◌^◌, sym, subst, arith, reverse, length-reverse, reverse-append, IsFine}
use Rattle.seccomp_tree.proofs.Runs.{sound_push}
use Rattle.seccomp_tree.proofs.code.Code.push.Goals as goal

pub invariant_of-self-2 : goal.invariant_of-self-2
invariant_of-self-2 c =
    let items = c.self.inside.back.items in
    let i = c.args.instruction in
    let fine = subst (λ l. IsFine i 0 (length l + 1)) (sym c.self.view_is) c.requires.fine in
    let room : length (reverse items) + 1 < 2 ^ 32 =
    omega (arith, length-reverse items, c.self.inside.back.ok.0, c.self.invariant.few, c.len.ensures) in
    rw c.in_ok-push.ensures.items (rw reverse-append (sound_push (reverse items) i c.self.invariant fine c.requires.range room))
