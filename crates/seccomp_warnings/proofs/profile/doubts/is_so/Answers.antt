use Rattle.std.proofs.Common.{◌≡◌, subst, sym}
use Rattle.seccomp_entries.specs.declared.entry.Action.TheVariants.{Notify}
use Rattle.seccomp_warnings.specs.Doubts.{IsDoubtIn, IsLargeErrno, NotifiesWrite}
use Rattle.seccomp_warnings.proofs.Doubted.{is_concerned, is_open}
use Rattle.seccomp_warnings.proofs.profile.doubts.is_so.Goals as goal

pub returns-then-has_concerned : goal.returns-then-has_concerned
returns-then-has_concerned c = λ yes.
    let p = c.args.profile.now in
    let l = c.args.lowered.now in
    subst (IsDoubtIn p l) (sym c.in-LargeErrno.is)
    (is_concerned p l (λ e. IsLargeErrno e.action) c.in-LargeErrno.place (c.has_large_errno.ensures.0 yes)
    c.args.index (c.has_concerned.ensures c.if-has_concerned.true))

pub returns-then-has_concerned-2 : goal.returns-then-has_concerned-2
returns-then-has_concerned-2 c = λ yes.
    let p = c.args.profile.now in
    let l = c.args.lowered.now in
    let own = c.lacks_listener.ensures.0 yes in
    subst (IsDoubtIn p l) (sym c.in-NoListener.is) (λ arch container is decides. (
      own.0,
      is_concerned p l (λ e. e.action ≡ Notify)
          c.in-NoListener.place own.1 c.args.index (c.has_concerned-in-NoListener.ensures c.if-has_concerned-2.true)
          arch container is decides,
    ))

pub returns-then-has_concerned-3 : goal.returns-then-has_concerned-3
returns-then-has_concerned-3 c = λ yes.
    let p = c.args.profile.now in
    let l = c.args.lowered.now in
    subst (IsDoubtIn p l) (sym c.in-NotifiesWrite.is)
    (is_concerned p l NotifiesWrite c.in-NotifiesWrite.place (c.notifies_write.ensures.0 yes)
    c.args.index (c.has_concerned-in-NotifiesWrite.ensures c.if-has_concerned-3.true))

pub returns-in-OpenOrder : goal.returns-in-OpenOrder
returns-in-OpenOrder c = λ yes.
    let p = c.args.profile.now in
    let l = c.args.lowered.now in
    subst (IsDoubtIn p l) (sym c.in-OpenOrder.is)
    (is_open p l c.in-OpenOrder.first c.in-OpenOrder.second c.in-OpenOrder.call (c.is_open.ensures yes))
