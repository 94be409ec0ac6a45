mod One
mod RingRows
mod Turns
