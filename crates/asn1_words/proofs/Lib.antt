mod Numbers
mod Scaled
mod OwnDigits
mod FewOctets
mod Negative
mod Pieces
