-- The definitions that the contracts cite.

-- What is promised: what the kernel makes of programs that hold together, and one program that returns the same.
pub mod Stack
-- Between layers: how programs are made one, and when they are too long.
pub mod Joined
