mod ListsByNumber
mod Places
