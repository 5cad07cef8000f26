use Rattle.seccomp_tree.proofs.tree.+tests.Given as goal

abbrev pub decreases-tests : goal.decreases-tests
decreases-tests l = l.most
