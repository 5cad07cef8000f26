-- Names of errnos.
use Rattle.std.specs.Prelude.{◌≡◌, ℕ, List, [], ◌∷◌, Any, codes}

-- Names of Linux's errnos and their numbers, which are the same on all three architectures (errno(3)).
abbrev pub error_names : List (List ℕ × ℕ)
error_names = (codes "EPERM", 1) ∷ (codes "ENOENT", 2) ∷ (codes "ESRCH", 3) ∷ (codes "EINTR", 4) ∷ (codes "EIO", 5) ∷ (codes "ENXIO", 6)
    ∷ (codes "E2BIG", 7) ∷ (codes "ENOEXEC", 8) ∷ (codes "EBADF", 9) ∷ (codes "ECHILD", 10) ∷ (codes "EAGAIN", 11)
    ∷ (codes "EWOULDBLOCK", 11) ∷ (codes "ENOMEM", 12) ∷ (codes "EACCES", 13) ∷ (codes "EFAULT", 14) ∷ (codes "ENOTBLK", 15)
    ∷ (codes "EBUSY", 16) ∷ (codes "EEXIST", 17) ∷ (codes "EXDEV", 18) ∷ (codes "ENODEV", 19) ∷ (codes "ENOTDIR", 20)
    ∷ (codes "EISDIR", 21) ∷ (codes "EINVAL", 22) ∷ (codes "ENFILE", 23) ∷ (codes "EMFILE", 24) ∷ (codes "ENOTTY", 25)
    ∷ (codes "ETXTBSY", 26) ∷ (codes "EFBIG", 27) ∷ (codes "ENOSPC", 28) ∷ (codes "ESPIPE", 29) ∷ (codes "EROFS", 30)
    ∷ (codes "EMLINK", 31) ∷ (codes "EPIPE", 32) ∷ (codes "EDOM", 33) ∷ (codes "ERANGE", 34) ∷ (codes "EDEADLK", 35)
    ∷ (codes "EDEADLOCK", 35) ∷ (codes "ENAMETOOLONG", 36) ∷ (codes "ENOLCK", 37) ∷ (codes "ENOSYS", 38) ∷ (codes "ENOTEMPTY", 39)
    ∷ (codes "ELOOP", 40) ∷ (codes "ENOMSG", 42) ∷ (codes "EIDRM", 43) ∷ (codes "ECHRNG", 44) ∷ (codes "EL2NSYNC", 45)
    ∷ (codes "EL3HLT", 46) ∷ (codes "EL3RST", 47) ∷ (codes "ELNRNG", 48) ∷ (codes "EUNATCH", 49) ∷ (codes "ENOCSI", 50)
    ∷ (codes "EL2HLT", 51) ∷ (codes "EBADE", 52) ∷ (codes "EBADR", 53) ∷ (codes "EXFULL", 54) ∷ (codes "ENOANO", 55)
    ∷ (codes "EBADRQC", 56) ∷ (codes "EBADSLT", 57) ∷ (codes "EBFONT", 59) ∷ (codes "ENOSTR", 60) ∷ (codes "ENODATA", 61)
    ∷ (codes "ETIME", 62) ∷ (codes "ENOSR", 63) ∷ (codes "ENONET", 64) ∷ (codes "ENOPKG", 65) ∷ (codes "EREMOTE", 66)
    ∷ (codes "ENOLINK", 67) ∷ (codes "EADV", 68) ∷ (codes "ESRMNT", 69) ∷ (codes "ECOMM", 70) ∷ (codes "EPROTO", 71)
    ∷ (codes "EMULTIHOP", 72) ∷ (codes "EDOTDOT", 73) ∷ (codes "EBADMSG", 74) ∷ (codes "EOVERFLOW", 75) ∷ (codes "ENOTUNIQ", 76)
    ∷ (codes "EBADFD", 77) ∷ (codes "EREMCHG", 78) ∷ (codes "ELIBACC", 79) ∷ (codes "ELIBBAD", 80) ∷ (codes "ELIBSCN", 81)
    ∷ (codes "ELIBMAX", 82) ∷ (codes "ELIBEXEC", 83) ∷ (codes "EILSEQ", 84) ∷ (codes "ERESTART", 85) ∷ (codes "ESTRPIPE", 86)
    ∷ (codes "EUSERS", 87) ∷ (codes "ENOTSOCK", 88) ∷ (codes "EDESTADDRREQ", 89) ∷ (codes "EMSGSIZE", 90) ∷ (codes "EPROTOTYPE", 91)
    ∷ (codes "ENOPROTOOPT", 92) ∷ (codes "EPROTONOSUPPORT", 93) ∷ (codes "ESOCKTNOSUPPORT", 94) ∷ (codes "EOPNOTSUPP", 95)
    ∷ (codes "ENOTSUP", 95) ∷ (codes "EPFNOSUPPORT", 96) ∷ (codes "EAFNOSUPPORT", 97) ∷ (codes "EADDRINUSE", 98)
    ∷ (codes "EADDRNOTAVAIL", 99) ∷ (codes "ENETDOWN", 100) ∷ (codes "ENETUNREACH", 101) ∷ (codes "ENETRESET", 102)
    ∷ (codes "ECONNABORTED", 103) ∷ (codes "ECONNRESET", 104) ∷ (codes "ENOBUFS", 105) ∷ (codes "EISCONN", 106)
    ∷ (codes "ENOTCONN", 107) ∷ (codes "ESHUTDOWN", 108) ∷ (codes "ETOOMANYREFS", 109) ∷ (codes "ETIMEDOUT", 110)
    ∷ (codes "ECONNREFUSED", 111) ∷ (codes "EHOSTDOWN", 112) ∷ (codes "EHOSTUNREACH", 113) ∷ (codes "EALREADY", 114)
    ∷ (codes "EINPROGRESS", 115) ∷ (codes "ESTALE", 116) ∷ (codes "EUCLEAN", 117) ∷ (codes "ENOTNAM", 118) ∷ (codes "ENAVAIL", 119)
    ∷ (codes "EISNAM", 120) ∷ (codes "EREMOTEIO", 121) ∷ (codes "EDQUOT", 122) ∷ (codes "ENOMEDIUM", 123) ∷ (codes "EMEDIUMTYPE", 124)
    ∷ (codes "ECANCELED", 125) ∷ (codes "ENOKEY", 126) ∷ (codes "EKEYEXPIRED", 127) ∷ (codes "EKEYREVOKED", 128)
    ∷ (codes "EKEYREJECTED", 129) ∷ (codes "EOWNERDEAD", 130) ∷ (codes "ENOTRECOVERABLE", 131) ∷ (codes "ERFKILL", 132)
    ∷ (codes "EHWPOISON", 133) ∷ []

-- It is a name of the errno of this number.
abbrev pub IsErrorName : List ℕ → ℕ → Type 0
IsErrorName name n = Any (λ error. (error.0 ≡ name) × (error.1 ≡ n)) error_names
